use Rattle.std.proofs.Common.{◌∙◌, ap, inr, Err, rules}
use Rattle.base.proofs.Layouts.{few_slots}
use Rattle.database.proofs.Covering.{obeys-as}
use Rattle.database.proofs.Histories.{put-own, put-again}
use Rattle.database.proofs.committing.put_collecting.Goals as goal

pub returns-in-SlotsOut-clause-steps : goal.returns-in-SlotsOut-clause-steps
returns-in-SlotsOut-clause-steps g c = inr (
  c.put.new.room.room,
  c.collect.new.room.room,
  obeys-as _ _ _ _ _ _ _ c.put.ensures.step (c.in-Err.is ∙ ap Err c.in-SlotsOut.is),
  (c.saturating_add-places.result, λ q shows. search (rules, few_slots c.geometry.result c.slots.ensures.in_limits), c.collect.ensures.visits),
  c.put-in-SlotsOut.ensures.step,
)

pub returns-in-Ok-clause-log : goal.returns-in-Ok-clause-log
returns-in-Ok-clause-log g c = put-own c.args.session c.args.key c.args.row.now c.put.result _ c.args.room.now.log c.put.new.room.log c.in-Ok.is c.put.ensures.log

pub returns-in-SlotsOut-clause-log : goal.returns-in-SlotsOut-clause-log
returns-in-SlotsOut-clause-log g c =
    put-again c.args.session c.args.key c.args.row.now c.put.result c.in-Err.fault c.put-in-SlotsOut.result c.args.room.now.log c.put.new.room.log c.collect.new.room.log c.put-in-SlotsOut.new.room.log c.in-Err.is c.put.ensures.log c.collect.ensures.log c.put-in-SlotsOut.ensures.log

pub returns-in_default-clause-log : goal.returns-in_default-clause-log
returns-in_default-clause-log g c = put-own c.args.session c.args.key c.args.row.now c.put.result _ c.args.room.now.log c.put.new.room.log c.in-Err.is c.put.ensures.log
