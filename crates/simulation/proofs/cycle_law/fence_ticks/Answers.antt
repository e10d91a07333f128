use Rattle.simulation.proofs.cycles.covers.Ticks.{fence-ticks}
use Rattle.simulation.proofs.cycle_law.fence_ticks.Goals as goal

pub returns : goal.returns
returns c = fence-ticks
