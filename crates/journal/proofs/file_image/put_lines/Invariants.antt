use Rattle.journal.specs.LinePayloads.{lines_of}
use Rattle.journal.proofs.Placed.{ArePlaced}
use Rattle.journal.proofs.file_image.put_lines.Given as goal

abbrev pub invariant-loop-at : goal.invariant-loop-at
invariant-loop-at l = ArePlaced l.fn.image.items l.image.items (lines_of l.at l.fn.payloads)
