use Rattle.std.proofs.Common.{◌∙◌, ap, subst, sym, Bool}
use Rattle.std.specs.Prelude.{Option, Result, Ok}
use Rattle.std.proofs.Math.Logic.{∥∥₁_map}
use Rattle.base.specs.declared.fault.Fault.{Fault}
use Rattle.base.specs.declared.step.Step.TheVariants.{Commit as CommitTick}
use Rattle.group_commit.specs.Cycles.{Cycling}
use Rattle.machine.specs.Machine.{State}
use Rattle.room.specs.Committing.{ShowsIn}
use Rattle.room.specs.Steps.{ShowsSomeIn, StepsToIn}
use Rattle.room.specs.Ticks.{chosen_reply}
use Rattle.room.proofs.closes.Ticks.{rests}
use Rattle.room.proofs.volatile.VolatileState.tick.Goals as goal

pub choose-requires-clause-rests : goal.choose-requires-clause-rests
choose-requires-clause-rests g c = rests c.args.self.now.cycle (sym c.is_some.ensures ∙ c.if-is_some.false)

pub choose-requires-clause-shown : goal.choose-requires-clause-shown
choose-requires-clause-shown g c =
    ∥∥₁_map (subst (λ (o : Option Cycling). ∥ ShowsSomeIn c.args.self.now.sessions o (g.D.Pmem.state c.args.device.now) ∥₁) (rests c.args.self.now.cycle (sym c.is_some.ensures ∙ c.if-is_some.false)) c.requires.shown)
    (λ some. (g.D.Pmem.state c.args.device.now, some))

pub returns-in-Ok-true : goal.returns-in-Ok-true
returns-in-Ok-true g c = record {
  step = λ q shows works.
      subst (λ (r : Result Bool Fault). (q' : State) × StepsToIn c.choose.new.self.sessions c.choose.new.self.cycle (g.D.Pmem.state c.args.device.now) (g.D.Pmem.state c.args.device.now) CommitTick (chosen_reply r) q q') (c.in-Ok-true.is ∙ ap (λ (b : Bool). let r : Result Bool Fault = Ok b in r) c.in-Ok-true.field-0-test)
      (c.choose.ensures.step (g.D.Pmem.state c.args.device.now) (g.met.D.Pmem.orderly _) q
      (subst (λ (o : Option Cycling). ShowsIn c.args.self.now.sessions o (g.D.Pmem.state c.args.device.now) q) (rests c.args.self.now.cycle (sym c.is_some.ensures ∙ c.if-is_some.false)) shows) works);
  waits = c.choose.ensures.waits;
}

pub returns-in-Ok-false : goal.returns-in-Ok-false
returns-in-Ok-false g c = record {
  step = λ q shows works.
      subst (λ (r : Result Bool Fault). (q' : State) × StepsToIn c.choose.new.self.sessions c.choose.new.self.cycle (g.D.Pmem.state c.args.device.now) (g.D.Pmem.state c.args.device.now) CommitTick (chosen_reply r) q q') (c.in-Ok-false.is ∙ ap (λ (b : Bool). let r : Result Bool Fault = Ok b in r) c.in-Ok-false.field-0-test)
      (c.choose.ensures.step (g.D.Pmem.state c.args.device.now) (g.met.D.Pmem.orderly _) q
      (subst (λ (o : Option Cycling). ShowsIn c.args.self.now.sessions o (g.D.Pmem.state c.args.device.now) q) (rests c.args.self.now.cycle (sym c.is_some.ensures ∙ c.if-is_some.false)) shows) works);
  waits = c.choose.ensures.waits;
}

pub returns-in-Err : goal.returns-in-Err
returns-in-Err g c = record {
  step = λ q shows works.
      subst (λ (r : Result Bool Fault). (q' : State) × StepsToIn c.choose.new.self.sessions c.choose.new.self.cycle (g.D.Pmem.state c.args.device.now) (g.D.Pmem.state c.args.device.now) CommitTick (chosen_reply r) q q') c.in-Err.is
      (c.choose.ensures.step (g.D.Pmem.state c.args.device.now) (g.met.D.Pmem.orderly _) q
      (subst (λ (o : Option Cycling). ShowsIn c.args.self.now.sessions o (g.D.Pmem.state c.args.device.now) q) (rests c.args.self.now.cycle (sym c.is_some.ensures ∙ c.if-is_some.false)) shows) works);
  waits = c.choose.ensures.waits;
}
