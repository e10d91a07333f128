use Rattle.recovery.proofs.openings.Gaps.{Joined}
use Rattle.recovery.proofs.gaps.join_gaps.Given as goal

abbrev pub invariant-loop-gap : goal.invariant-loop-gap
invariant-loop-gap l = Joined l.fn.ruling l.gaps l.last l.gap-index
