use Rattle.room.specs.Usage.{ShowsUsage}
use Rattle.room.proofs.Runs.{comes-to}
use Rattle.database.proofs.opened.OpenedRoom.usage.Goals as goal

pub returns : goal.returns
returns g c = comes-to g.D.Pmem.state c.args.self.now.room (λ q. ShowsUsage q c.usage.result) c.args.self.now.run c.usage.ensures
