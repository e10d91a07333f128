use Rattle.simulation.proofs.visits.Garbage.{visits-keep-sight}
use Rattle.simulation.proofs.visit_law.visits_keep_sight.Goals as goal

pub returns : goal.returns
returns c = visits-keep-sight
