use Rattle.simulation.proofs.cycles.closes.States.{closes-on}
use Rattle.simulation.proofs.cycle_law.closes_on.Goals as goal

pub returns : goal.returns
returns c = closes-on
