use Rattle.std.specs.Prelude.{◌≡◌, None, map}
use Rattle.session_steps.specs.Shows.{plain_drawn}
use Rattle.room.specs.Closing.{ClosePhaseDone}
use Rattle.room.proofs.closes.Stamps.{left_in}
use Rattle.room.proofs.volatile.VolatileState.stamp_rest.Given as goal

abbrev pub invariant-loop-session : goal.invariant-loop-session
invariant-loop-session g l = ClosePhaseDone l.fn.self l.self (g.D.Pmem.state l.fn.device) (g.D.Pmem.state l.device) × (l.self.cycle ≡ None)

abbrev pub decreases-loop-session : goal.decreases-loop-session
decreases-loop-session g l = left_in (map plain_drawn l.self.sessions.drawn.commits)
