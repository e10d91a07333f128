use Rattle.std.proofs.Common.{refl}
use Rattle.base.specs.declared.step.Step.TheVariants.{Get}
use Rattle.database.specs.Replies.{row_of}
use Rattle.database.proofs.Histories.{sees-read, attends-in}
use Rattle.database.proofs.Runs.{answers-step}
use Rattle.database.proofs.transaction.Transaction.get.Goals as goal

pub returns-clause-answers : goal.returns-clause-answers
returns-clause-answers g c = answers-step g.D.Pmem.state c.in-Some.room.room c.get.new.room.room (Get c.args.self.now.session c.args.key) row_of c.get.result c.in-Some.room.run c.get.ensures.step

pub returns-clause-sees : goal.returns-clause-sees
returns-clause-sees g c =
    sees-read g.D.Pmem.state g.J.Origin.opened _ c.in-Some.room c.get.new.room.room c.args.self.now.session c.args.self.now.trace (Get c.args.self.now.session c.args.key) row_of c.get.result c.in-Some.is c.in-Some.room.logged (attends-in c.args.self.now.session c.args.self.now.trace c.deref-2.result.now.room c.deref_mut.result.now.room c.attend.ensures (cc)) c.get.ensures.step (λ fault. refl)
