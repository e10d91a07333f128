use Rattle.group_commit.proofs.Counting.{ticks-are_counted}
use Rattle.group_commit.proofs.law.ticks_are_counted.Goals as goal

pub returns : goal.returns
returns c = ticks-are_counted
