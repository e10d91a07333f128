use Rattle.simulation.proofs.visits.Visits.{visits-lead}
use Rattle.simulation.proofs.visit_law.visits_lead.Goals as goal

pub returns : goal.returns
returns c = visits-lead
