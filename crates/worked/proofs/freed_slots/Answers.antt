use Rattle.worked.proofs.Runs.{freed_slots}
use Rattle.worked.proofs.freed_slots.Goals as goal

pub returns : goal.returns
returns c = freed_slots
