use Rattle.std.proofs.Common.{◌∙◌}
use Rattle.session_steps.proofs.Counted.{free-counted}
use Rattle.session_steps.proofs.sessions.Sessions.free_slots.Goals as goal

pub returns : goal.returns
returns c = λ device q shows. c.free_count.ensures ∙ free-counted c.args.self.now device q shows
