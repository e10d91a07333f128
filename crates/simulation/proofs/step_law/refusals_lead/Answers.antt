use Rattle.simulation.proofs.steps.StepsWithoutStores.{refusals-lead}
use Rattle.simulation.proofs.step_law.refusals_lead.Goals as goal

pub returns : goal.returns
returns c = refusals-lead
