use Rattle.machine.proofs.Replayed.{stepped, decided, replayed, ends}
use Rattle.machine.proofs.law.steps_are_decided.Goals as goal

pub returns : goal.returns
returns c = record { one = decided; some = stepped; run = λ q steps. (replayed q steps, ends q steps) }
