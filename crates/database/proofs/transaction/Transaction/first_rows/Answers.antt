use Rattle.std.proofs.Common.{ℕ, List, ◌∙◌, ap, refl, sym, subst}
use Rattle.std.specs.Prelude.{Result, Ok}
use Rattle.base.specs.declared.key.Key.{Key}
use Rattle.base.specs.declared.fault.Fault.{Fault}
use Rattle.base.specs.declared.step.Step.TheVariants.{Scan}
use Rattle.session_steps.specs.Reads.{first_of}
use Rattle.database.specs.Reads.{ReadsReply}
use Rattle.database.proofs.Histories.{sees-part, attends-in}
use Rattle.database.proofs.transaction.Transaction.first_rows.Goals as goal

pub returns-in-Ok-clause-answers : goal.returns-in-Ok-clause-answers
returns-in-Ok-clause-answers g c = subst (λ (r : Result (List (Key × List ℕ)) Fault). ReadsReply (Scan c.args.self.now.session c.args.table c.args.lo c.args.hi) (first_of c.args.limit) r) (c.in-Ok.is ∙ ap Ok (sym c.into_items.ensures)) c.first_rows.ensures.comes

pub returns-clause-answers : goal.returns-clause-answers
returns-clause-answers g c = subst (λ (r : Result (List (Key × List ℕ)) Fault). ReadsReply (Scan c.args.self.now.session c.args.table c.args.lo c.args.hi) (first_of c.args.limit) r) c.in-Err.is c.first_rows.ensures.comes

pub returns-in-Ok-clause-sees : goal.returns-in-Ok-clause-sees
returns-in-Ok-clause-sees g c =
    sees-part g.D.Pmem.state g.J.Origin.opened _ c.in-Some.room c.args.self.now.session c.args.self.now.trace (Scan c.args.self.now.session c.args.table c.args.lo c.args.hi) (first_of c.args.limit) c.first_rows.result c.into_items.result.items c.in-Some.is
    c.in-Some.room.logged (attends-in c.args.self.now.session c.args.self.now.trace c.deref-2.result.now.room c.deref-3.result.now.room c.attend.ensures (cc)) c.first_rows.ensures.shows (c.in-Ok.is ∙ ap Ok (sym c.into_items.ensures)) (λ fault. refl)
