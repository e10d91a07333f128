use Rattle.worked.proofs.Runs.{full_write_set}
use Rattle.worked.proofs.full_write_set.Goals as goal

pub returns : goal.returns
returns c = full_write_set
