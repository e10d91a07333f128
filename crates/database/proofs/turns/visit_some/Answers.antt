use Rattle.std.proofs.Common.{refl, ◌∙◌}
use Rattle.base.specs.declared.step.Step.TheVariants.{Collect}
use Rattle.session_steps.specs.Collecting.{as_reply as visited}
use Rattle.database.proofs.Covering.{repeats-none, repeats-then, repeats-join}
use Rattle.database.proofs.turns.visit_some.Goals as goal

pub loop-init : goal.loop-init
loop-init g c = record { visits = repeats-none g.D.Pmem.state c.args.room.now.room Collect (g.met.D.Pmem.orderly c.args.room.now.room.device); ended = refl }

pub loop-preserved : goal.loop-preserved
loop-preserved g c = record {
  visits = repeats-then g.D.Pmem.state c.args.room.now.room c.pass.new.self.room c.visit.new.self.room Collect (visited c.visit.result)
      (repeats-join g.D.Pmem.state c.args.room.now.room c.loop.room.room c.pass.new.self.room Collect c.pass.result c.loop.invariant.visits c.pass.ensures.visits) c.visit.ensures.step;
  ended = c.visit.ensures.ended ∙ c.pass.ensures.ended ∙ c.loop.invariant.ended;
}

pub returns-in-Ok-SweepEnd : goal.returns-in-Ok-SweepEnd
returns-in-Ok-SweepEnd g c = record {
  visits = repeats-then g.D.Pmem.state c.args.room.now.room c.pass.new.self.room c.visit.new.self.room Collect (visited c.visit.result)
      (repeats-join g.D.Pmem.state c.args.room.now.room c.loop.room.room c.pass.new.self.room Collect c.pass.result c.loop.invariant.visits c.pass.ensures.visits) c.visit.ensures.step;
  ended = c.visit.ensures.ended ∙ c.pass.ensures.ended ∙ c.loop.invariant.ended;
}

pub returns-in-Err : goal.returns-in-Err
returns-in-Err g c = record {
  visits = repeats-then g.D.Pmem.state c.args.room.now.room c.pass.new.self.room c.visit.new.self.room Collect (visited c.visit.result)
      (repeats-join g.D.Pmem.state c.args.room.now.room c.loop.room.room c.pass.new.self.room Collect c.pass.result c.loop.invariant.visits c.pass.ensures.visits) c.visit.ensures.step;
  ended = c.visit.ensures.ended ∙ c.pass.ensures.ended ∙ c.loop.invariant.ended;
}
