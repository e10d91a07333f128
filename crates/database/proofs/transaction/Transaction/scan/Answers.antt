use Rattle.std.proofs.Common.{◌∙◌, ap, refl, sym, Ok, Err}
use Rattle.base.specs.declared.step.Step.TheVariants.{Scan}
use Rattle.database.specs.Replies.{rows_of}
use Rattle.database.proofs.Covering.{obeys-as}
use Rattle.database.proofs.Histories.{sees-step, attends-in}
use Rattle.database.proofs.Runs.{answers-step}
use Rattle.database.proofs.transaction.Transaction.scan.Goals as goal

pub returns-in-Ok-clause-answers : goal.returns-in-Ok-clause-answers
returns-in-Ok-clause-answers g c =
    answers-step g.D.Pmem.state c.in-Some.room.room c.scan.new.room.room (Scan c.args.self.now.session c.args.table c.args.lo c.args.hi) rows_of (Ok c.into_items.result.items) c.in-Some.room.run
    (obeys-as _ _ _ _ _ _ _ c.scan.ensures.step (c.in-Ok.is ∙ ap Ok (sym c.into_items.ensures)))

pub returns-clause-answers : goal.returns-clause-answers
returns-clause-answers g c =
    answers-step g.D.Pmem.state c.in-Some.room.room c.scan.new.room.room (Scan c.args.self.now.session c.args.table c.args.lo c.args.hi) rows_of (Err c.in-Err.fault) c.in-Some.room.run
    (obeys-as _ _ _ _ _ _ _ c.scan.ensures.step c.in-Err.is)

pub returns-in-Ok-clause-sees : goal.returns-in-Ok-clause-sees
returns-in-Ok-clause-sees g c =
    sees-step g.D.Pmem.state g.J.Origin.opened _ c.in-Some.room c.scan.new.room.room c.args.self.now.session c.args.self.now.trace (Scan c.args.self.now.session c.args.table c.args.lo c.args.hi) rows_of c.scan.result c.into_items.result.items c.in-Some.is
    c.in-Some.room.logged (attends-in c.args.self.now.session c.args.self.now.trace c.deref-2.result.now.room c.deref_mut.result.now.room c.attend.ensures (cc)) c.scan.ensures.step (c.in-Ok.is ∙ ap Ok (sym c.into_items.ensures)) (λ fault. refl)
