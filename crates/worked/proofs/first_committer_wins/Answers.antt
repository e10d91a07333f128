use Rattle.worked.proofs.Runs.{first_committer_wins}
use Rattle.worked.proofs.first_committer_wins.Goals as goal

pub returns : goal.returns
returns c = first_committer_wins
