use Rattle.machine.proofs.lives.Laws.{lives-stand, lives-lose, close-told}
use Rattle.machine.proofs.lives.Lost.{lives-lived}
use Rattle.machine.proofs.lives.Replies.{lives-add, lives-acknowledge}
use Rattle.machine.proofs.law.lives_keep_the_history.Goals as goal

pub returns : goal.returns
returns c = record {
  stand = lives-stand;
  grow = λ before asked reports after w lives. record { history = (lives-lived before asked reports after w lives).0; lost = lives-lose before asked reports after lives };
  add = lives-add;
  acknowledged = lives-acknowledge;
  closes = close-told;
}
