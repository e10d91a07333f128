use Rattle.session_steps.proofs.AnyHand.{shows-hand, shows-failed}
use Rattle.session_steps.proofs.law.sessions_show_any_hand.Goals as goal

pub returns : goal.returns
returns c = record { hand = shows-hand; failed = shows-failed }
