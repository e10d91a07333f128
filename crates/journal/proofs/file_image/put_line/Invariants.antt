use Rattle.journal.proofs.Placed.{IsPlacing}
use Rattle.journal.proofs.file_image.put_line.Given as goal

abbrev pub invariant-loop-place : goal.invariant-loop-place
invariant-loop-place l = IsPlacing l.fn.image.items l.image.items l.fn.line l.place
