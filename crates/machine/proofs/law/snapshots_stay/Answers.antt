use Rattle.machine.proofs.reads.Snapshots.{sees-opened, sees-kept, sees-the-same}
use Rattle.machine.proofs.law.snapshots_stay.Goals as goal

pub returns : goal.returns
returns c = record { opened = sees-opened; kept = sees-kept; stays = sees-the-same }
