use Rattle.std.proofs.Common.{refl, ◌∙◌}
use Rattle.base.specs.declared.step.Step.TheVariants as machine
use Rattle.base.specs.declared.step.SessionStep.TheVariants as asked
use Rattle.session_steps.specs.Replies.{stamped}
use Rattle.session_steps.proofs.Stepping.{on-device}
use Rattle.room.proofs.Rooms.{step-refused, shows-some}
use Rattle.room.proofs.Calls.{held-on, stamped-failure, shows-after-call, call-leads}
use Rattle.room.proofs.room.Room.stamp.Goals as goal

pub returns-then-self : goal.returns-then-self
returns-then-self g c = record { step = step-refused g.D.Pmem.state c.args.self.now (machine.Stamp c.args.session) (g.met.D.Pmem.orderly c.args.self.now.device) c.if-self.true; waits = refl }

pub stamp-returned-requires : goal.stamp-returned-requires
stamp-returned-requires g c = record { shown = held-on c.args.self.now.volatile (g.D.Pmem.state c.args.self.now.device) c.args.self.now.failed c.if-self.false c.args.self.now.shown }

pub invariant_of-self : goal.invariant_of-self
invariant_of-self g c = record {
  shown = shows-after-call c.args.self.now.volatile.sessions c.stamp-returned.new.self c.args.self.now.volatile.cycle (g.D.Pmem.state c.args.self.now.device) (g.D.Pmem.state c.stamp-returned.new.device) (asked.Stamp c.args.session) (stamped c.stamp-returned.result) c.keep_failure.new.failed (c.keep_failure.ensures ∙ stamped-failure c.stamp-returned.result)
      (on-device _ _ (g.D.Pmem.state c.args.self.now.device) (g.D.Pmem.state c.stamp-returned.new.device) (asked.Stamp c.args.session) (stamped c.stamp-returned.result) c.stamp-returned.ensures.step) (shows-some c.args.self.now.volatile (g.D.Pmem.state c.args.self.now.device) c.args.self.now.failed c.if-self.false c.args.self.now.shown);
}

pub returns : goal.returns
returns g c = record {
  step = call-leads g.D.Pmem.state c.args.self.now _ (asked.Stamp c.args.session) (stamped c.stamp-returned.result) c.if-self.false (c.keep_failure.ensures ∙ stamped-failure c.stamp-returned.result) refl
      (on-device _ _ (g.D.Pmem.state c.args.self.now.device) (g.D.Pmem.state c.stamp-returned.new.device) (asked.Stamp c.args.session) (stamped c.stamp-returned.result) c.stamp-returned.ensures.step);
  waits = refl;
}
