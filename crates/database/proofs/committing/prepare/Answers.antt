use Rattle.std.proofs.Common.{◌∙◌, ap, inr, Ok}
use Rattle.database.specs.declared.error.CommitError.{CommitError}
use Rattle.database.proofs.Covering.{obeys-as, stamps-as, nothing-refused, nothing-ended}
use Rattle.database.proofs.Histories.{drawn-stamped, drawn-ended, drew-as, drew-none, drew-not}
use Rattle.database.proofs.committing.prepare.Goals as goal

pub returns-in-Ok-stamp_all-clause-steps : goal.returns-in-Ok-stamp_all-clause-steps
returns-in-Ok-stamp_all-clause-steps g c =
    (c.draw.new.room.room, obeys-as _ _ _ _ _ _ _ c.draw.ensures.step (c.in-Ok.is ∙ ap Ok c.in-Some.is), stamps-as _ _ _ _ _ _ c.stamp_all.ensures.stamps c.in-Ok-stamp_all.is)

pub returns-in-Err-stamp_all-clause-steps : goal.returns-in-Err-stamp_all-clause-steps
returns-in-Err-stamp_all-clause-steps g c =
    (c.in-Some.timestamp, (c.draw.new.room.room, obeys-as _ _ _ _ _ _ _ c.draw.ensures.step (c.in-Ok.is ∙ ap Ok c.in-Some.is), stamps-as _ _ _ _ _ _ c.stamp_all.ensures.stamps c.in-Err-stamp_all.is))

pub returns-in-Ok-end-clause-steps : goal.returns-in-Ok-end-clause-steps
returns-in-Ok-end-clause-steps g c =
    (c.draw.new.room.room, obeys-as _ _ _ _ _ _ _ c.draw.ensures.step (c.in-Ok.is ∙ ap Ok c.in-None.is), obeys-as _ _ _ _ _ _ _ c.end.ensures.step c.in-Ok-end.is)

pub returns-in-Err-end-clause-steps : goal.returns-in-Err-end-clause-steps
returns-in-Err-end-clause-steps g c =
    inr (c.draw.new.room.room, obeys-as _ _ _ _ _ _ _ c.draw.ensures.step (c.in-Ok.is ∙ ap Ok c.in-None.is), obeys-as _ _ _ _ _ _ _ c.end.ensures.step c.in-Err-end.is)

pub returns-in-Err-end-clause-refused : goal.returns-in-Err-end-clause-refused
returns-in-Err-end-clause-refused g c =
    nothing-ended _ _ _ _ _ _ _ (obeys-as _ _ _ _ _ _ _ c.draw.ensures.step (c.in-Ok.is ∙ ap Ok c.in-None.is)) c.end.ensures.step

pub returns-in-Err-clause-refused : goal.returns-in-Err-clause-refused
returns-in-Err-clause-refused g c = nothing-refused _ _ _ _ _ (obeys-as _ _ _ _ _ _ _ c.draw.ensures.step c.in-Err.is)

pub returns-in-Ok-stamp_all-clause-log : goal.returns-in-Ok-stamp_all-clause-log
returns-in-Ok-stamp_all-clause-log g c =
    drawn-stamped c.args.session c.draw.result c.in-Some.timestamp c.args.room.now.log c.draw.new.room.log c.stamp_all.new.room.log c.draw.ensures.log (c.in-Ok.is ∙ ap Ok c.in-Some.is) c.stamp_all.ensures.log

pub returns-in-Ok-stamp_all-clause-next : goal.returns-in-Ok-stamp_all-clause-next
returns-in-Ok-stamp_all-clause-next g c = drew-as CommitError g.J.Origin.opened c.args.room.now.log c.draw.result c.in-Some.timestamp c.draw.ensures.next (c.in-Ok.is ∙ ap Ok c.in-Some.is)

pub returns-in-Ok-end-clause-log : goal.returns-in-Ok-end-clause-log
returns-in-Ok-end-clause-log g c =
    drawn-ended c.args.session c.draw.result c.end.result c.args.room.now.log c.draw.new.room.log c.end.new.room.log c.draw.ensures.log (c.in-Ok.is ∙ ap Ok c.in-None.is) c.end.ensures.log c.in-Ok-end.is

pub returns-in-Ok-end-clause-next : goal.returns-in-Ok-end-clause-next
returns-in-Ok-end-clause-next g c = drew-none CommitError g.J.Origin.opened c.args.room.now.log

pub returns-in-Err-stamp_all-clause-next : goal.returns-in-Err-stamp_all-clause-next
returns-in-Err-stamp_all-clause-next g c = drew-not g.J.Origin.opened c.args.room.now.log _

pub returns-in-Err-end-clause-next : goal.returns-in-Err-end-clause-next
returns-in-Err-end-clause-next g c = drew-not g.J.Origin.opened c.args.room.now.log _

pub returns-in-Err-clause-next : goal.returns-in-Err-clause-next
returns-in-Err-clause-next g c = drew-not g.J.Origin.opened c.args.room.now.log _
