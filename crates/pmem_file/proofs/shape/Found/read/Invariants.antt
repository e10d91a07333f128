use Rattle.std.specs.Prelude.{⊤}
use Rattle.pmem_file.proofs.shape.Found.read.Given as goal

abbrev pub invariant-loop-left : goal.invariant-loop-left
invariant-loop-left l = ⊤

abbrev pub decreases-loop-left : goal.decreases-loop-left
decreases-loop-left l = l.left
