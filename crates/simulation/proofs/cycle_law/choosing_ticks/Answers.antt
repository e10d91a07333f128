use Rattle.simulation.proofs.cycles.covers.Ticks.{choosing-ticks}
use Rattle.simulation.proofs.cycle_law.choosing_ticks.Goals as goal

pub returns : goal.returns
returns c = choosing-ticks
