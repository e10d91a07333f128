use Rattle.std.proofs.Common.{refl, ◌∙◌}
use Rattle.base.specs.declared.step.Step.TheVariants.{Commit}
use Rattle.room.specs.Ticks.{as_reply}
use Rattle.room.proofs.Rooms.{step-on, step-refused, shows-some, shows-then}
use Rattle.room.proofs.Calls.{tick-failure}
use Rattle.room.proofs.room.Room.advance.Goals as goal

pub returns-then-self : goal.returns-then-self
returns-then-self g c = record { step = step-refused g.D.Pmem.state c.args.self.now Commit (g.met.D.Pmem.orderly c.args.self.now.device) c.if-self.true; waits = refl }

pub tick-returned-requires : goal.tick-returned-requires
tick-returned-requires g c = record { shown = shows-some c.args.self.now.volatile _ c.args.self.now.failed c.if-self.false c.args.self.now.shown }

pub invariant_of-self : goal.invariant_of-self
invariant_of-self g c = record {
  shown = shows-then c.args.self.now.volatile c.tick-returned.new.self (g.D.Pmem.state c.args.self.now.device) (g.D.Pmem.state c.tick-returned.new.device) Commit (as_reply c.tick-returned.result c.tick-returned.new.self.covered)
      c.keep_failure.new.failed (c.keep_failure.ensures ∙ tick-failure c.tick-returned.result c.tick-returned.new.self.covered) c.tick-returned.ensures.step (shows-some c.args.self.now.volatile _ c.args.self.now.failed c.if-self.false c.args.self.now.shown);
}

pub returns : goal.returns
returns g c = record { step = step-on g.D.Pmem.state c.args.self.now _ Commit (as_reply c.tick-returned.result c.tick-returned.new.self.covered) c.if-self.false (c.keep_failure.ensures ∙ tick-failure c.tick-returned.result c.tick-returned.new.self.covered) c.tick-returned.ensures.step; waits = c.tick-returned.ensures.waits }
