use Rattle.simulation.proofs.cycles.covers.Ticks.{line-ticks}
use Rattle.simulation.proofs.cycle_law.line_ticks.Goals as goal

pub returns : goal.returns
returns c = line-ticks
