use Rattle.simulation.proofs.steps.puts.Leads.{puts-lead}
use Rattle.simulation.proofs.step_law.puts_lead.Goals as goal

pub returns : goal.returns
returns c = puts-lead
