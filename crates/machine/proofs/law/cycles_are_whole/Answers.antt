use Rattle.machine.proofs.covers.Cycles.{cycle-whole}
use Rattle.machine.proofs.law.cycles_are_whole.Goals as goal

pub returns-clause-whole : goal.returns-clause-whole
returns-clause-whole c = cycle-whole
