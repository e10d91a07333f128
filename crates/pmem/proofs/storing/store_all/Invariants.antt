use Rattle.std.proofs.Common.{slice_index}
use Rattle.pmem.specs.Persisting.{store_operations}
use Rattle.pmem.specs.Trace.{Runs}
use Rattle.pmem.proofs.storing.store_all.Given as goal

abbrev pub invariant-loop-k : goal.invariant-loop-k
invariant-loop-k g l = Runs (store_operations l.first (slice_index l.values) l.k) (g.D.Pmem.state l.initial.device) (g.D.Pmem.state l.device)
