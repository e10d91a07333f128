use Rattle.simulation.proofs.steps.Runs.{runs-count}
use Rattle.simulation.proofs.step_law.runs_count.Goals as goal

pub returns : goal.returns
returns c = runs-count
