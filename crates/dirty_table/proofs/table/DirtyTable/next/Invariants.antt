use Rattle.std.specs.Prelude.{◌-◌, length}
use Rattle.dirty_table.proofs.Tables.{Walks}
use Rattle.dirty_table.proofs.table.DirtyTable.next.Given as goal

abbrev pub invariant-loop-line : goal.invariant-loop-line
invariant-loop-line l = Walks l.sessions l.self l.from l.low

abbrev pub decreases-loop-line : goal.decreases-loop-line
decreases-loop-line l = length l.self - l.low
