use Rattle.simulation.proofs.cycles.covers.Ticks.{covering-ticks}
use Rattle.simulation.proofs.cycle_law.covering_ticks.Goals as goal

pub returns : goal.returns
returns c = covering-ticks
