use Rattle.state_invariant.proofs.steps.Shown.{shows-step}
use Rattle.state_invariant.proofs.law.steps_keep_the_slots.Goals as goal

pub returns : goal.returns
returns c = shows-step
