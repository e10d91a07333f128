use Rattle.worked.proofs.Runs.{no_slot_left}
use Rattle.worked.proofs.no_slot_left.Goals as goal

pub returns : goal.returns
returns c = no_slot_left
