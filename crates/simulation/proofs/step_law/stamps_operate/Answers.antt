use Rattle.simulation.proofs.steps.stamps.Lines.{stamps-operate}
use Rattle.simulation.proofs.step_law.stamps_operate.Goals as goal

pub returns : goal.returns
returns c = stamps-operate
