use Rattle.database.proofs.Histories.{sees-page, attends-in}
use Rattle.database.proofs.transaction.Transaction.page.Goals as goal

pub returns-clause-sees : goal.returns-clause-sees
returns-clause-sees g c =
    sees-page g.D.Pmem.state g.J.Origin.opened _ c.in-Some.room c.args.self.now.session c.args.self.now.trace c.args.first c.args.last c.args.limit c.page.result c.in-Some.is c.in-Some.room.logged (attends-in c.args.self.now.session c.args.self.now.trace c.deref-2.result.now.room c.deref-3.result.now.room c.attend.ensures (cc)) c.page.ensures.shows
