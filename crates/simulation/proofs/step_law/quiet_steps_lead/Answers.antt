use Rattle.simulation.proofs.steps.StepsWithoutStores.{quiet-steps-lead}
use Rattle.simulation.proofs.step_law.quiet_steps_lead.Goals as goal

pub returns : goal.returns
returns c = quiet-steps-lead
