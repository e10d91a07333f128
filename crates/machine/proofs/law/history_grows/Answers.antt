use Rattle.machine.proofs.Growth.{extends-run, acknowledged-stays}
use Rattle.machine.proofs.covers.Ticks.{covered-kept}
use Rattle.machine.proofs.law.history_grows.Goals as goal

pub returns : goal.returns
returns c = record { grows = extends-run; acknowledged = acknowledged-stays; covered = covered-kept }
