use Rattle.simulation.proofs.cycles.covers.LineOrder.{lines-are_in_order}
use Rattle.simulation.proofs.cycle_law.lines_rise.Goals as goal

pub returns : goal.returns
returns c = lines-are_in_order
