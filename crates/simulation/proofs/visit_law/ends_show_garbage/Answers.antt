use Rattle.simulation.proofs.visits.Garbage.{ends-show-garbage}
use Rattle.simulation.proofs.visit_law.ends_show_garbage.Goals as goal

pub returns : goal.returns
returns c = ends-show-garbage
