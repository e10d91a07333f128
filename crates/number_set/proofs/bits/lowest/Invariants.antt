use Rattle.number_set.proofs.Words.{Looks}
use Rattle.number_set.proofs.bits.lowest.Given as goal

abbrev pub invariant-loop-at : goal.invariant-loop-at
invariant-loop-at l = Looks l.words l.from l.at l.low
