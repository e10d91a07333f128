use Rattle.simulation.proofs.cycles.covers.Ticks.{operation-ticks}
use Rattle.simulation.proofs.cycle_law.operation_ticks.Goals as goal

pub returns : goal.returns
returns c = operation-ticks
