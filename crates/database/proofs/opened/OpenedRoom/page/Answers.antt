use Rattle.session_steps.specs.Reads.{ReadsPage}
use Rattle.room.proofs.Runs.{comes-to}
use Rattle.database.proofs.opened.OpenedRoom.page.Goals as goal

pub returns-clause-comes : goal.returns-clause-comes
returns-clause-comes g c = comes-to g.D.Pmem.state c.args.self.now.room (λ q. ReadsPage q c.args.session c.args.first c.args.last c.args.limit c.page.result) c.args.self.now.run c.page.ensures
