use Rattle.session_laws.proofs.Sessions.{quiet-stays, drawn-waits}
use Rattle.session_laws.proofs.Standings.{goes-on}
use Rattle.session_laws.proofs.law.quiet_sessions_stay.Goals as goal

pub returns : goal.returns
returns c = record { quiet = quiet-stays; drawn = drawn-waits; stamped = goes-on }
