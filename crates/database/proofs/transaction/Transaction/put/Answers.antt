use Rattle.std.proofs.Common.{ap}
use Rattle.database.proofs.Reporting.{answers-put}
use Rattle.std.specs.Prelude.{is_ok}
use Rattle.base.specs.declared.step.Step.TheVariants.{Put}
use Rattle.database.specs.Histories.{made_if}
use Rattle.database.proofs.Histories.{does-in}
use Rattle.database.proofs.transaction.Transaction.put.Goals as goal

pub returns-clause-made : goal.returns-clause-made
returns-clause-made g c =
    answers-put g.D.Pmem.state c.in-Some.room.room c.put_collecting-returned.new.room.room c.args.self.now.session c.args.key c.args.row c.put_collecting-returned.result c.in-Some.room.run c.put_collecting-returned.ensures.steps

pub returns-clause-does : goal.returns-clause-does
returns-clause-does g c =
    let steps = made_if (is_ok c.put_collecting-returned.result) (Put c.args.self.now.session c.args.key c.args.row) in
    does-in c.args.self.now.session steps c.args.self.now.trace c.keep.new.self.trace c.deref-2.result.now.room _ c.deref-3.result.now.room c.in-Some.room c.put_collecting-returned.new.room c.attend.ensures c.keep.ensures.trace c.in-Some.is c.put_collecting-returned.ensures.log (cc) (ap (λ d. d.room) c.deref-3.ensures)
