use Rattle.worked.proofs.Runs.{update}
use Rattle.worked.proofs.updated_row.Goals as goal

pub returns : goal.returns
returns c = update
