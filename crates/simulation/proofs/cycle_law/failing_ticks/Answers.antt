use Rattle.simulation.proofs.cycles.covers.Ticks.{failing-ticks}
use Rattle.simulation.proofs.cycle_law.failing_ticks.Goals as goal

pub returns : goal.returns
returns c = failing-ticks
