use Rattle.state_invariant.proofs.covers.Chosen.{keeps-chosen}
use Rattle.simulation.proofs.cycle_law.batches_are_chosen.Goals as goal

pub returns : goal.returns
returns c = λ o q kept. keeps-chosen o q kept
