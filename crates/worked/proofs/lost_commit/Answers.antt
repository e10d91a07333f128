use Rattle.worked.proofs.Runs.{lost_commit}
use Rattle.worked.proofs.lost_commit.Goals as goal

pub returns : goal.returns
returns c = lost_commit
