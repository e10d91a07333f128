use Rattle.room.specs.Closing.{ClosePhaseDone, ticks_left}
use Rattle.room.proofs.volatile.VolatileState.finish_cycle.Given as goal

abbrev pub invariant-loop-self : goal.invariant-loop-self
invariant-loop-self g l = ClosePhaseDone l.fn.self l.self (g.D.Pmem.state l.fn.device) (g.D.Pmem.state l.device)

abbrev pub decreases-loop-self : goal.decreases-loop-self
decreases-loop-self g l = ticks_left l.self.sessions.dirty l.self.cycle
