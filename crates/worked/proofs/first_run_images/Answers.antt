use Rattle.worked.proofs.Stands.{first_run}
use Rattle.worked.proofs.first_run_images.Goals as goal

pub returns : goal.returns
returns c = first_run
