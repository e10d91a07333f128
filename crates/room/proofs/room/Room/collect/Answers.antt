use Rattle.std.proofs.Common.{refl, ◌∙◌}
use Rattle.base.specs.declared.step.Step.TheVariants.{Collect}
use Rattle.session_steps.specs.Collecting.{as_reply}
use Rattle.room.proofs.Rooms.{step-on, step-refused, shows-some, shows-then}
use Rattle.room.proofs.Calls.{visit-failure}
use Rattle.room.proofs.room.Room.collect.Goals as goal

pub returns-then-self : goal.returns-then-self
returns-then-self g c = record { step = step-refused g.D.Pmem.state c.args.self.now Collect (g.met.D.Pmem.orderly c.args.self.now.device) c.if-self.true; waits = refl }

pub collect-returned-requires : goal.collect-returned-requires
collect-returned-requires g c = record { shown = shows-some c.args.self.now.volatile _ c.args.self.now.failed c.if-self.false c.args.self.now.shown }

pub invariant_of-self : goal.invariant_of-self
invariant_of-self g c = record {
  shown = shows-then c.args.self.now.volatile c.collect-returned.new.self (g.D.Pmem.state c.args.self.now.device) (g.D.Pmem.state c.collect-returned.new.device) Collect (as_reply c.collect-returned.result)
      c.keep_failure.new.failed (c.keep_failure.ensures ∙ visit-failure c.collect-returned.result) c.collect-returned.ensures.step (shows-some c.args.self.now.volatile _ c.args.self.now.failed c.if-self.false c.args.self.now.shown);
}

pub returns : goal.returns
returns g c = record { step = step-on g.D.Pmem.state c.args.self.now _ Collect (as_reply c.collect-returned.result) c.if-self.false (c.keep_failure.ensures ∙ visit-failure c.collect-returned.result) c.collect-returned.ensures.step; waits = c.collect-returned.ensures.waits }
