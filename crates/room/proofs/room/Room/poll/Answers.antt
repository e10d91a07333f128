use Rattle.std.proofs.Common.{refl}
use Rattle.base.specs.declared.step.Step.TheVariants as machine
use Rattle.base.specs.declared.step.SessionStep.TheVariants as asked
use Rattle.session_steps.specs.Replies.{polled}
use Rattle.session_steps.proofs.Quietly.{steps-quietly}
use Rattle.room.proofs.Rooms.{step-refused}
use Rattle.room.proofs.Calls.{quiet-leads}
use Rattle.room.proofs.room.Room.poll.Goals as goal

pub returns-then-self : goal.returns-then-self
returns-then-self g c = record { step = step-refused g.D.Pmem.state c.args.self.now (machine.Poll c.args.session) (g.met.D.Pmem.orderly c.args.self.now.device) c.if-self.true }

pub returns : goal.returns
returns g c = record {
  step = quiet-leads g.D.Pmem.state c.args.self.now _ (asked.Poll c.args.session) (polled c.poll.result) c.if-self.false refl refl refl c.args.self.now.shown
      (steps-quietly _ _ (g.D.Pmem.state c.args.self.now.device) (asked.Poll c.args.session) (polled c.poll.result) (g.met.D.Pmem.orderly _) refl c.poll.ensures.step);
}
