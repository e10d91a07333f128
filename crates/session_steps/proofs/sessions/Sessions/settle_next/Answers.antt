use Rattle.session_steps.proofs.Settled.{tidies-still, tidies-both}
use Rattle.session_steps.proofs.sessions.Sessions.settle_next.Goals as goal

pub loop-init : goal.loop-init
loop-init c = tidies-still c.args.self.now

pub loop-preserved : goal.loop-preserved
loop-preserved c = tidies-both c.args.self.now c.loop.self c.settle_one.new.self c.loop.invariant c.settle_one.ensures.tidies
