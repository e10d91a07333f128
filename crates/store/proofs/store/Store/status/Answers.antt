use Rattle.room.proofs.Runs.{comes-weaken}
use Rattle.database.specs.Reports.{ShowsReport}
use Rattle.store.specs.Status.{ShowsStore}
use Rattle.store.proofs.store.Store.status.Goals as goal

pub returns-clause-shows : goal.returns-clause-shows
returns-clause-shows g c =
    comes-weaken (λ q. ShowsReport q c.report.result) (λ q. ShowsStore q c.of.result) c.of.ensures.shows c.report.ensures
