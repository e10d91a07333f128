use Rattle.console.proofs.Repeating.{needed-are-enough}
use Rattle.console.proofs.law.needed_visits_are_enough.Goals as goal

pub returns : goal.returns
returns c = needed-are-enough
