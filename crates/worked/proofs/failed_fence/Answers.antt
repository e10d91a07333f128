use Rattle.worked.proofs.Runs.{failed_fence}
use Rattle.worked.proofs.failed_fence.Goals as goal

pub returns : goal.returns
returns c = failed_fence
