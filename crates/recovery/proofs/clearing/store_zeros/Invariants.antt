use Rattle.pmem.specs.Persisting.{store_operations}
use Rattle.pmem.specs.Trace.{Runs}
use Rattle.recovery.proofs.clearing.store_zeros.Given as goal

abbrev pub invariant-loop-k : goal.invariant-loop-k
invariant-loop-k g l = Runs (store_operations l.first (λ k. 0) l.k) (g.D.Pmem.state l.initial.device) (g.D.Pmem.state l.device)
