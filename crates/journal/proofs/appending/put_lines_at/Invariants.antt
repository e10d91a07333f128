use Rattle.std.specs.Prelude.{take}
use Rattle.journal.specs.Changes.{AreFound}
use Rattle.journal.proofs.appending.put_lines_at.Given as goal

abbrev pub invariant-loop-number : goal.invariant-loop-number
invariant-loop-number l = AreFound l.lines.items l.fn.words (take l.number-index l.fn.numbers)
