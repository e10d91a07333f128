use Rattle.std.proofs.Common.{◌≡◌, length, take}
use Rattle.std.specs.Prelude.{max}
use Rattle.txn.specs.WriteSets.{plain_writes}
use Rattle.group_commit.proofs.batch.rows_of.Given as goal

abbrev pub invariant-loop-write : goal.invariant-loop-write
invariant-loop-write l = (l.rows.items ≡ plain_writes (take l.write-index l.writes)) × (l.rows.capacity ≡ max 1 (length l.writes))
