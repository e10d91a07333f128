use Rattle.simulation.proofs.cycles.covers.LineCounts.{lines-are_counted}
use Rattle.simulation.proofs.cycle_law.lines_are_counted.Goals as goal

pub returns : goal.returns
returns c = lines-are_counted
