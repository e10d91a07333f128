use Rattle.simulation.proofs.cycles.closes.LastPart.{closing-writes}
use Rattle.simulation.proofs.cycle_law.closing_writes.Goals as goal

pub returns : goal.returns
returns c = closing-writes
