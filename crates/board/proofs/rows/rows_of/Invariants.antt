use Rattle.std.proofs.Common.{◌≡◌, ◌≤◌, drop, length}
use Rattle.base.specs.declared.key.Key.{Key}
use Rattle.base.specs.Keys.{lookup_key}
use Rattle.board.proofs.rows.rows_of.Given as goal

abbrev pub invariant-loop-left : goal.invariant-loop-left
invariant-loop-left l = (l.left ≤ length l.given) × ((k : Key) → lookup_key l.rows.entries k ≡ lookup_key (drop l.left l.given) k)

abbrev pub decreases-loop-left : goal.decreases-loop-left
decreases-loop-left l = l.left
