use Rattle.session_steps.proofs.Settled.{settles-tidies, tidies-still}
use Rattle.session_steps.proofs.sessions.Sessions.settle.Goals as goal

pub returns-in-Some : goal.returns-in-Some
returns-in-Some c = settles-tidies c.args.self.now c.in-Some.place c.args.self.now.next_entry c.settle_at.new.index c.settle_at.result c.settle_at.ensures

pub returns-in_default : goal.returns-in_default
returns-in_default c = tidies-still c.args.self.now
