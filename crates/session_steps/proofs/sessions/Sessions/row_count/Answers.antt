use Rattle.session_steps.proofs.Counted.{rows-counted}
use Rattle.session_steps.proofs.sessions.Sessions.row_count.Goals as goal

pub returns : goal.returns
returns c = λ device q shows. rows-counted c.args.self.now device q shows c.live_count.result c.live_count.ensures
