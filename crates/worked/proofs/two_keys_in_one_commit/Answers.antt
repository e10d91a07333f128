use Rattle.worked.proofs.Runs.{two_keys_stamped}
use Rattle.worked.proofs.two_keys_in_one_commit.Goals as goal

pub returns : goal.returns
returns c = two_keys_stamped
