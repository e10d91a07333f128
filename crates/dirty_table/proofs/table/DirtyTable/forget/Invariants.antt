use Rattle.std.specs.Prelude.{◌-◌, length}
use Rattle.dirty_table.proofs.Tables.{Forgot}
use Rattle.dirty_table.proofs.table.DirtyTable.forget.Given as goal

abbrev pub invariant-loop-line : goal.invariant-loop-line
invariant-loop-line l = Forgot l.sessions l.fn.self l.self l.from

abbrev pub decreases-loop-line : goal.decreases-loop-line
decreases-loop-line l = length l.self - l.from
