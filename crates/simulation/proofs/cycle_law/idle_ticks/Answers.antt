use Rattle.simulation.proofs.cycles.covers.Ticks.{idle-ticks}
use Rattle.simulation.proofs.cycle_law.idle_ticks.Goals as goal

pub returns : goal.returns
returns c = idle-ticks
