use Rattle.worked.proofs.Runs.{empty_write_set}
use Rattle.worked.proofs.empty_write_set.Goals as goal

pub returns : goal.returns
returns c = empty_write_set
