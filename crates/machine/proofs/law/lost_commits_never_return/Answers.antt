use Rattle.machine.proofs.lives.Lost.{lives-lived}
use Rattle.machine.proofs.law.lost_commits_never_return.Goals as goal

pub returns : goal.returns
returns c = λ before asked reports after w o lives. (lives-lived before asked reports after w lives).2 o
