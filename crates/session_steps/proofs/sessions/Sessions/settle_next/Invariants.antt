use Rattle.session_steps.specs.Settling.{Tidies}
use Rattle.session_steps.proofs.sessions.Sessions.settle_next.Given as goal

abbrev pub invariant-loop : goal.invariant-loop
invariant-loop l = Tidies l.fn.self l.self
