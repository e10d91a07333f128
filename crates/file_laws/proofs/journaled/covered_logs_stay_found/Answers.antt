use Rattle.file_laws.proofs.Lives.{stays-found}
use Rattle.file_laws.proofs.journaled.covered_logs_stay_found.Goals as goal

pub returns : goal.returns
returns g c = λ opened log has. stays-found opened log
