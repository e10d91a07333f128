use Rattle.worked.proofs.Runs.{first_commit}
use Rattle.worked.proofs.first_commit.Goals as goal

pub returns : goal.returns
returns c = first_commit
