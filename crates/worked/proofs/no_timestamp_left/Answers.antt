use Rattle.worked.proofs.Runs.{no_timestamp_left}
use Rattle.worked.proofs.no_timestamp_left.Goals as goal

pub returns : goal.returns
returns c = no_timestamp_left
