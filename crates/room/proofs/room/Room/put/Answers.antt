use Rattle.std.proofs.Common.{refl, ◌∙◌}
use Rattle.base.specs.declared.step.Step.TheVariants as machine
use Rattle.base.specs.declared.step.SessionStep.TheVariants as asked
use Rattle.session_steps.specs.Replies.{done}
use Rattle.session_steps.proofs.Stepping.{on-device}
use Rattle.room.proofs.Rooms.{step-refused, shows-some}
use Rattle.room.proofs.Calls.{held-on, done-failure, shows-after-call, call-leads}
use Rattle.room.proofs.room.Room.put.Goals as goal

pub returns-then-self-clause-step : goal.returns-then-self-clause-step
returns-then-self-clause-step g c = step-refused g.D.Pmem.state c.args.self.now (machine.Put c.args.session c.args.key c.args.row.now) (g.met.D.Pmem.orderly c.args.self.now.device) c.if-self.true

pub put-returned-requires : goal.put-returned-requires
put-returned-requires g c = record { shown = held-on c.args.self.now.volatile (g.D.Pmem.state c.args.self.now.device) c.args.self.now.failed c.if-self.false c.args.self.now.shown }

pub invariant_of-self : goal.invariant_of-self
invariant_of-self g c = record {
  shown = shows-after-call c.args.self.now.volatile.sessions c.put-returned.new.self c.args.self.now.volatile.cycle (g.D.Pmem.state c.args.self.now.device) (g.D.Pmem.state c.put-returned.new.device) (asked.Put c.args.session c.args.key c.args.row.now) (done c.put-returned.result) c.keep_failure.new.failed (c.keep_failure.ensures ∙ done-failure c.put-returned.result)
      (on-device _ _ (g.D.Pmem.state c.args.self.now.device) (g.D.Pmem.state c.put-returned.new.device) (asked.Put c.args.session c.args.key c.args.row.now) (done c.put-returned.result) c.put-returned.ensures.step) (shows-some c.args.self.now.volatile (g.D.Pmem.state c.args.self.now.device) c.args.self.now.failed c.if-self.false c.args.self.now.shown);
}

pub returns-clause-step : goal.returns-clause-step
returns-clause-step g c =
    call-leads g.D.Pmem.state c.args.self.now _ (asked.Put c.args.session c.args.key c.args.row.now) (done c.put-returned.result) c.if-self.false (c.keep_failure.ensures ∙ done-failure c.put-returned.result) refl
    (on-device _ _ (g.D.Pmem.state c.args.self.now.device) (g.D.Pmem.state c.put-returned.new.device) (asked.Put c.args.session c.args.key c.args.row.now) (done c.put-returned.result) c.put-returned.ensures.step)
