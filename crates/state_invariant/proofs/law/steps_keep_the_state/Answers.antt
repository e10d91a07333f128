use Rattle.state_invariant.proofs.steps.Kept.{keeps-step, keeps-run}
use Rattle.state_invariant.proofs.law.steps_keep_the_state.Goals as goal

pub returns : goal.returns
returns c = record { step = keeps-step; run = keeps-run }
