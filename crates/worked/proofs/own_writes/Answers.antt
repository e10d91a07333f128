use Rattle.worked.proofs.Runs.{own_writes}
use Rattle.worked.proofs.own_writes.Goals as goal

pub returns : goal.returns
returns c = own_writes
