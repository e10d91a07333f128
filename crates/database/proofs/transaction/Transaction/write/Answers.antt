use Rattle.std.proofs.Common.{ap}
use Rattle.database.specs.Committing.{AreWrites}
use Rattle.room.proofs.Runs.{ends-run}
use Rattle.database.proofs.Histories.{does-writes-in}
use Rattle.database.proofs.transaction.Transaction.write.Goals as goal

pub returns-clause-made : goal.returns-clause-made
returns-clause-made g c =
    let a = c.write_all-returned.ensures.steps in
    ends-run g.D.Pmem.state c.in-Some.room.room c.write_all-returned.new.room.room a.0 (AreWrites c.args.self.now.session c.args.writes.now c.write_all-returned.result) c.in-Some.room.run a.1 a.2

pub returns-clause-does : goal.returns-clause-does
returns-clause-does g c =
    does-writes-in c.args.self.now.session c.args.writes.now c.write_all-returned.result c.args.self.now.trace c.keep.new.self.trace c.deref-2.result.now.room _ c.deref-3.result.now.room c.in-Some.room c.write_all-returned.new.room c.attend.ensures c.keep.ensures.trace c.in-Some.is c.write_all-returned.ensures.log (cc) (ap (λ d. d.room) c.deref-3.ensures)
