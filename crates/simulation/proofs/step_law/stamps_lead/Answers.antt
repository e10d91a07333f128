use Rattle.simulation.proofs.steps.stamps.Leads.{stamps-lead}
use Rattle.simulation.proofs.step_law.stamps_lead.Goals as goal

pub returns : goal.returns
returns c = stamps-lead
