use Rattle.base.specs.Actors.{committer}
use Rattle.pmem.specs.Persisting.{flush_operations}
use Rattle.pmem.specs.Trace.{Runs}
use Rattle.recovery.proofs.clearing.flush_lines.Given as goal

abbrev pub invariant-loop-k : goal.invariant-loop-k
invariant-loop-k g l = Runs (flush_operations committer l.first l.k) (g.D.Pmem.state l.initial.device) (g.D.Pmem.state l.device)
