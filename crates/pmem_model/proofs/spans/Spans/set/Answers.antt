use Rattle.std.proofs.Common.{arith}
use Rattle.pmem_model.proofs.Weights.{weight-most, weights-most}
use Rattle.pmem_model.proofs.spans.Spans.set.Goals as goal

pub overflow_add-self : goal.overflow_add-self
overflow_add-self c = grind (arith, weights-most, weight-most)
