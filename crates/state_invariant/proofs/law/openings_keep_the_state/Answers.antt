use Rattle.state_invariant.proofs.openings.Kept.{keeps-opened, shows-opened}
use Rattle.state_invariant.proofs.law.openings_keep_the_state.Goals as goal

pub returns : goal.returns
returns c = record { keeps = keeps-opened; shows = shows-opened }
