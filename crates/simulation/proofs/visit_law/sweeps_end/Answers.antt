use Rattle.simulation.proofs.visits.Visits.{sweeps-end}
use Rattle.simulation.proofs.visit_law.sweeps_end.Goals as goal

pub returns : goal.returns
returns c = sweeps-end
