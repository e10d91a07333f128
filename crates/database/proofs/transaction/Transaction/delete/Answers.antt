use Rattle.std.proofs.Common.{ap}
use Rattle.database.specs.Replies.{done_of}
use Rattle.database.proofs.Runs.{answers-step}
use Rattle.std.specs.Prelude.{is_ok}
use Rattle.base.specs.declared.step.Step.TheVariants.{Delete}
use Rattle.database.specs.Histories.{made_if}
use Rattle.database.proofs.Histories.{does-in, delete-own}
use Rattle.database.proofs.transaction.Transaction.delete.Goals as goal

pub returns-clause-made : goal.returns-clause-made
returns-clause-made g c =
    answers-step g.D.Pmem.state c.in-Some.room.room c.delete-returned.new.room.room (Delete c.args.self.now.session c.args.key) done_of c.delete-returned.result c.in-Some.room.run c.delete-returned.ensures.step

pub returns-clause-does : goal.returns-clause-does
returns-clause-does g c =
    let steps = made_if (is_ok c.delete-returned.result) (Delete c.args.self.now.session c.args.key) in
    does-in c.args.self.now.session steps c.args.self.now.trace c.keep.new.self.trace c.deref-2.result.now.room _ c.deref-3.result.now.room c.in-Some.room c.delete-returned.new.room c.attend.ensures c.keep.ensures.trace c.in-Some.is
    (delete-own c.args.self.now.session c.args.key c.delete-returned.result _ _ c.delete-returned.ensures.log) (cc) (ap (λ d. d.room) c.deref-3.ensures)
