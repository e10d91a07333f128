use Rattle.std.proofs.Common.{arith}
use Rattle.pmem_model.proofs.Listed.{pending-others}
use Rattle.pmem_model.proofs.pending.Pending.add.Goals as goal

pub returns-then-count-self-clause-others : goal.returns-then-count-self-clause-others
returns-then-count-self-clause-others c = grind (arith, pending-others)
