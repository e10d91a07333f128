use Rattle.simulation.proofs.steps.Runs.{stops-count}
use Rattle.simulation.proofs.step_law.stops_count.Goals as goal

pub returns : goal.returns
returns c = stops-count
