use Rattle.room.proofs.Runs.{comes-to}
use Rattle.database.specs.Reports.{ShowsReport}
use Rattle.database.proofs.opened.OpenedRoom.report.Goals as goal

pub returns : goal.returns
returns g c = comes-to g.D.Pmem.state c.args.self.now.room (λ q. ShowsReport q _) c.args.self.now.run
    (λ q shown. record { layout = c.geometry.ensures q shown; numbers = c.status.ensures q shown; usage = c.usage.ensures q shown })
