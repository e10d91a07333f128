use Rattle.simulation.proofs.cycles.covers.Ticks.{refused-ticks}
use Rattle.simulation.proofs.cycle_law.refused_ticks.Goals as goal

pub returns : goal.returns
returns c = refused-ticks
