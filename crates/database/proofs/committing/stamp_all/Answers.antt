use Rattle.std.proofs.Common.{◌∙◌, ap, refl, Ok}
use Rattle.base.specs.declared.step.Step.TheVariants.{Stamp}
use Rattle.base.specs.declared.step.Reply.TheVariants.{More}
use Rattle.std.specs.Prelude.{is_ok}
use Rattle.database.proofs.Histories.{stamps-none, stamps-then}
use Rattle.database.proofs.Covering.{answered-none, stamps-more, obeys-as}
use Rattle.database.proofs.committing.stamp_all.Goals as goal

pub loop-init : goal.loop-init
loop-init g c = record { stamps = answered-none g.D.Pmem.state c.args.room.now.room (Stamp c.args.session) More (g.met.D.Pmem.orderly c.args.room.now.room.device); ended = refl; log = stamps-none c.args.session c.args.room.now.log }

pub loop-preserved : goal.loop-preserved
loop-preserved g c = record {
  stamps = stamps-more _ _ _ _ _ c.loop.invariant.stamps (obeys-as _ _ _ _ _ _ _ c.stamp.ensures.step (c.in-Ok.is ∙ ap Ok c.if-is_whole.false));
  ended = c.stamp.ensures.ended ∙ c.loop.invariant.ended;
  log = stamps-then c.args.session (is_ok c.stamp.result) c.args.room.now.log c.loop.room.log c.stamp.new.room.log c.loop.invariant.log c.stamp.ensures.log;
}

pub returns-then-is_whole : goal.returns-then-is_whole
returns-then-is_whole g c = record {
  stamps = (c.loop.room.room, c.loop.invariant.stamps, obeys-as _ _ _ _ _ _ _ c.stamp.ensures.step (c.in-Ok.is ∙ ap Ok c.if-is_whole.true));
  ended = c.stamp.ensures.ended ∙ c.loop.invariant.ended;
  log = stamps-then c.args.session (is_ok c.stamp.result) c.args.room.now.log c.loop.room.log c.stamp.new.room.log c.loop.invariant.log c.stamp.ensures.log;
}

pub returns-in-Err-clause-log : goal.returns-in-Err-clause-log
returns-in-Err-clause-log g c = stamps-then c.args.session (is_ok c.stamp.result) c.args.room.now.log c.loop.room.log c.stamp.new.room.log c.loop.invariant.log c.stamp.ensures.log
