use Rattle.simulation.proofs.cycles.closes.LastPart.{closing-flushes}
use Rattle.simulation.proofs.cycle_law.closing_flushes.Goals as goal

pub returns : goal.returns
returns c = closing-flushes
