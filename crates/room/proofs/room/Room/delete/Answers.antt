use Rattle.std.proofs.Common.{refl}
use Rattle.base.specs.declared.step.Step.TheVariants as machine
use Rattle.base.specs.declared.step.SessionStep.TheVariants as asked
use Rattle.session_steps.specs.Replies.{done}
use Rattle.session_steps.proofs.Quietly.{steps-quietly}
use Rattle.room.proofs.Rooms.{step-refused}
use Rattle.room.proofs.Calls.{held, shows-after-quiet, quiet-leads}
use Rattle.room.proofs.room.Room.delete.Goals as goal

pub returns-then-self-clause-step : goal.returns-then-self-clause-step
returns-then-self-clause-step g c = step-refused g.D.Pmem.state c.args.self.now (machine.Delete c.args.session c.args.key) (g.met.D.Pmem.orderly c.args.self.now.device) c.if-self.true

pub delete-requires : goal.delete-requires
delete-requires g c = record { shown = held c.args.self.now.volatile (g.D.Pmem.state c.args.self.now.device) c.args.self.now.failed c.if-self.false c.args.self.now.shown }

pub invariant_of-self : goal.invariant_of-self
invariant_of-self g c = record {
  shown = shows-after-quiet c.args.self.now.volatile.sessions c.delete.new.self c.args.self.now.volatile.cycle (g.D.Pmem.state c.args.self.now.device) (asked.Delete c.args.session c.args.key) (done c.delete.result) c.args.self.now.failed c.if-self.false
      (steps-quietly _ _ (g.D.Pmem.state c.args.self.now.device) (asked.Delete c.args.session c.args.key) (done c.delete.result) (g.met.D.Pmem.orderly _) refl c.delete.ensures.step) c.args.self.now.shown;
}

pub returns-clause-step : goal.returns-clause-step
returns-clause-step g c =
    quiet-leads g.D.Pmem.state c.args.self.now _ (asked.Delete c.args.session c.args.key) (done c.delete.result) c.if-self.false refl refl refl c.args.self.now.shown
    (steps-quietly _ _ (g.D.Pmem.state c.args.self.now.device) (asked.Delete c.args.session c.args.key) (done c.delete.result) (g.met.D.Pmem.orderly _) refl c.delete.ensures.step)
