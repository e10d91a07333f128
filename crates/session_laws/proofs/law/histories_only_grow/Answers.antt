use Rattle.session_laws.proofs.Sessions.{grows}
use Rattle.session_laws.proofs.Commits.{drawn-is_kept}
use Rattle.session_laws.proofs.law.histories_only_grow.Goals as goal

pub returns : goal.returns
returns c = record { grows = grows; drawn = drawn-is_kept }
