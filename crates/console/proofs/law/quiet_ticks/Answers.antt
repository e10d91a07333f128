use Rattle.console.proofs.IdleTicks.{quiet}
use Rattle.console.proofs.law.quiet_ticks.Goals as goal

pub returns : goal.returns
returns c = quiet
