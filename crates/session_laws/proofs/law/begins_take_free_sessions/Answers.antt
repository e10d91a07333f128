use Rattle.session_laws.proofs.Sessions.{free-closed, begins-fresh}
use Rattle.session_laws.proofs.law.begins_take_free_sessions.Goals as goal

pub returns : goal.returns
returns c = record { free = free-closed; begins = begins-fresh }
