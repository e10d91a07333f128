use Rattle.std.specs.Prelude.{take}
use Rattle.journal.proofs.Placings.{IsMarking}
use Rattle.journal.proofs.unplaced.mark_each.Given as goal

abbrev pub invariant-loop-line : goal.invariant-loop-line
invariant-loop-line l = IsMarking l.fn.marks.items l.marks.items (take l.line-index l.fn.lines)
