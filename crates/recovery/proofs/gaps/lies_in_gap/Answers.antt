use Rattle.std.proofs.Common.{arith}
use Rattle.recovery.proofs.openings.Gaps.{own-lies-in, long-lies, skipped-lies}
use Rattle.recovery.proofs.gaps.lies_in_gap.Goals as goal
use Rattle.recovery.proofs.gaps.lies_in_gap.Goals.{then-is_in_own_gap, else-is_in_own_gap}

pub returns-then-contains : goal.returns-then-contains
returns-then-contains c = grind (arith, then-is_in_own_gap, own-lies-in, else-is_in_own_gap, long-lies)

pub returns-else-contains : goal.returns-else-contains
returns-else-contains c = grind (arith, then-is_in_own_gap, else-is_in_own_gap, skipped-lies)
