use Rattle.simulation.proofs.cycles.covers.LinesStay.{lines-stay}
use Rattle.simulation.proofs.cycle_law.lines_stay.Goals as goal

pub returns : goal.returns
returns c = lines-stay
