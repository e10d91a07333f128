use Rattle.std.proofs.Common.{refl}
use Rattle.base.specs.declared.step.Step.TheVariants as machine
use Rattle.base.specs.declared.step.SessionStep.TheVariants as asked
use Rattle.session_steps.specs.Replies.{read}
use Rattle.session_steps.proofs.Quietly.{reads-quietly}
use Rattle.room.proofs.Rooms.{step-refused}
use Rattle.room.proofs.Calls.{held-on, quiet-leads}
use Rattle.room.proofs.room.Room.get.Goals as goal

pub returns-then-self : goal.returns-then-self
returns-then-self g c = record { step = step-refused g.D.Pmem.state c.args.self.now (machine.Get c.args.session c.args.key) (g.met.D.Pmem.orderly c.args.self.now.device) c.if-self.true }

pub get-requires : goal.get-requires
get-requires g c = record { shown = held-on c.args.self.now.volatile (g.D.Pmem.state c.args.self.now.device) c.args.self.now.failed c.if-self.false c.args.self.now.shown }

pub returns : goal.returns
returns g c = record {
  step = quiet-leads g.D.Pmem.state c.args.self.now _ (asked.Get c.args.session c.args.key) (read c.get.result) c.if-self.false refl refl refl c.args.self.now.shown
      (reads-quietly _ _ (g.D.Pmem.state c.args.self.now.device) (asked.Get c.args.session c.args.key) (read c.get.result) (g.met.D.Pmem.orderly _) refl c.get.ensures.step);
}
