use Rattle.worked.proofs.Runs.{session_numbers}
use Rattle.worked.proofs.session_numbers.Goals as goal

pub returns : goal.returns
returns c = session_numbers
