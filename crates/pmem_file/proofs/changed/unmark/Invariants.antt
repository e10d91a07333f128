use Rattle.pmem_file.proofs.Marks.{Left}
use Rattle.pmem_file.proofs.changed.unmark.Given as goal

abbrev pub invariant-loop-line : goal.invariant-loop-line
invariant-loop-line l = Left l.lines l.fn.marks l.marks l.line-index
