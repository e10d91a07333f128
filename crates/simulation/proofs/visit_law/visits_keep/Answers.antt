use Rattle.simulation.proofs.visits.Visits.{visits-keep}
use Rattle.simulation.proofs.visit_law.visits_keep.Goals as goal

pub returns : goal.returns
returns c = visits-keep
