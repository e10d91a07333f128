use Rattle.worked.proofs.Runs.{close_then_open}
use Rattle.worked.proofs.close_then_open.Goals as goal

pub returns : goal.returns
returns c = close_then_open
