use Rattle.std.proofs.Common.{◌≡◌, ◌++◌, take}
use Rattle.gap_list.proofs.parts.extend.Given as goal

abbrev pub invariant-loop-gap : goal.invariant-loop-gap
invariant-loop-gap l = l.gaps ≡ l.fn.gaps ++ take l.gap-index l.more
