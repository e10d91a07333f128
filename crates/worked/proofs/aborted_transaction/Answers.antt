use Rattle.worked.proofs.Runs.{aborted_writes}
use Rattle.worked.proofs.aborted_transaction.Goals as goal

pub returns : goal.returns
returns c = aborted_writes
