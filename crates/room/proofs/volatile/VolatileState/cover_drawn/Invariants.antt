use Rattle.std.specs.Prelude.{Some}
use Rattle.room.specs.Closing.{ticks_left}
use Rattle.room.proofs.closes.Cycle.{IsCovering}
use Rattle.room.proofs.volatile.VolatileState.cover_drawn.Given as goal

abbrev pub invariant-loop-cycle : goal.invariant-loop-cycle
invariant-loop-cycle g l = IsCovering l.self (g.D.Pmem.state l.fn.device) (g.D.Pmem.state l.device) l.cycle

abbrev pub decreases-loop-cycle : goal.decreases-loop-cycle
decreases-loop-cycle g l = ticks_left l.self.sessions.dirty (Some l.cycle)
