use Rattle.machine.proofs.Growth.{run-rise}
use Rattle.machine.proofs.lives.Lost.{lives-lived}
use Rattle.machine.proofs.law.timestamps_are_drawn_once.Goals as goal

pub returns : goal.returns
returns c = record { run = run-rise; lives = λ before asked reports after w lives. (lives-lived before asked reports after w lives).1 }
