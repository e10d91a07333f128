-- What a report says about a state.
use Rattle.std.specs.Prelude.{◌≡◌}
use Rattle.machine.specs.Machine.{State}
use Rattle.room.specs.Room.{ShowsStatus}
use Rattle.room.specs.Usage.{ShowsUsage}
use Rattle.database.specs.declared.database.Report.{Report}

-- its layout, the numbers of its ruling record, and how its slots are used
pub record ShowsReport (q : State) (report : Report) : Type 0 where
  pub layout : report.layout ≡ q.layout
  pub numbers : ShowsStatus q report.numbers
  pub usage : ShowsUsage q report.usage
