use Rattle.machine.proofs.collector.Rounds.{visits-follow, rounds-repeat}
use Rattle.machine.proofs.law.rounds_repeat.Goals as goal

pub returns-clause-follow : goal.returns-clause-follow
returns-clause-follow c = visits-follow

pub returns-clause-repeat : goal.returns-clause-repeat
returns-clause-repeat c = rounds-repeat
