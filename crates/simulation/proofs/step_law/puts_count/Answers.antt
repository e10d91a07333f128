use Rattle.simulation.proofs.steps.Counting.{puts-count}
use Rattle.simulation.proofs.step_law.puts_count.Goals as goal

pub returns : goal.returns
returns c = puts-count
