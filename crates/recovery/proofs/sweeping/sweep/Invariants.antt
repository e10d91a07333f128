use Rattle.pmem.specs.Trace.{Runs}
use Rattle.pmem.specs.Words.{value_of}
use Rattle.recovery.specs.Sweeping.{sweep_below}
use Rattle.recovery.proofs.sweeping.sweep.Given as goal

abbrev pub invariant-loop-slot : goal.invariant-loop-slot
invariant-loop-slot g l = Runs (sweep_below l.geometry l.ruling (value_of (g.D.Pmem.state l.initial.device)) l.slot) (g.D.Pmem.state l.initial.device) (g.D.Pmem.state l.device)
