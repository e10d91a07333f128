use Rattle.session_laws.proofs.Commits.{lives-begin, lives-go_on}
use Rattle.session_laws.proofs.law.lives_go_on.Goals as goal

pub returns : goal.returns
returns c = record { opened = lives-begin; kept = lives-go_on }
