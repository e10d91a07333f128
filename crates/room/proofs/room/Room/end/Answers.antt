use Rattle.std.proofs.Common.{refl}
use Rattle.base.specs.declared.step.Step.TheVariants as machine
use Rattle.base.specs.declared.step.SessionStep.TheVariants as asked
use Rattle.session_steps.specs.Replies.{done}
use Rattle.session_steps.proofs.Quietly.{steps-quietly}
use Rattle.room.proofs.Rooms.{step-refused}
use Rattle.room.proofs.Calls.{shows-after-quiet, quiet-leads}
use Rattle.room.proofs.room.Room.end.Goals as goal

pub returns-then-self : goal.returns-then-self
returns-then-self g c = record { step = step-refused g.D.Pmem.state c.args.self.now (machine.End c.args.session) (g.met.D.Pmem.orderly c.args.self.now.device) c.if-self.true; waits = refl }

pub invariant_of-self : goal.invariant_of-self
invariant_of-self g c = record {
  shown = shows-after-quiet c.args.self.now.volatile.sessions c.end.new.self c.args.self.now.volatile.cycle (g.D.Pmem.state c.args.self.now.device) (asked.End c.args.session) (done c.end.result) c.args.self.now.failed c.if-self.false
      (steps-quietly _ _ (g.D.Pmem.state c.args.self.now.device) (asked.End c.args.session) (done c.end.result) (g.met.D.Pmem.orderly _) refl c.end.ensures.step) c.args.self.now.shown;
}

pub returns : goal.returns
returns g c = record {
  step = quiet-leads g.D.Pmem.state c.args.self.now _ (asked.End c.args.session) (done c.end.result) c.if-self.false refl refl refl c.args.self.now.shown
      (steps-quietly _ _ (g.D.Pmem.state c.args.self.now.device) (asked.End c.args.session) (done c.end.result) (g.met.D.Pmem.orderly _) refl c.end.ensures.step);
  waits = refl;
}
