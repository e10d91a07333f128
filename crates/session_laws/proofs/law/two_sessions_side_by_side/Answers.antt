use Rattle.session_laws.proofs.Example.{worked-out}
use Rattle.session_laws.proofs.law.two_sessions_side_by_side.Goals as goal

pub returns : goal.returns
returns c = worked-out
