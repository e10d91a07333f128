use Rattle.recovery.proofs.openings.Gaps.{Added}
use Rattle.recovery.proofs.gaps.add_longs.Given as goal

abbrev pub invariant-loop-long : goal.invariant-loop-long
invariant-loop-long l = Added l.fn.ruling l.above l.below l.gaps l.last l.long-index
