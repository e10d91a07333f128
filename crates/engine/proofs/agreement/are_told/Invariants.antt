use Rattle.std.proofs.Common.{take}
use Rattle.engine.specs.Agreement.{AreTold}
use Rattle.engine.proofs.agreement.are_told.Given as goal

-- what the sessions so far were told is in the list
abbrev pub invariant-loop-session : goal.invariant-loop-session
invariant-loop-session g l = AreTold l.entries l.first (take l.session-index l.sessions)
