use Rattle.std.proofs.Common.{◌≡◌, ◌-◌, drop}
use Rattle.base.specs.Records.{are_apart}
use Rattle.log_area.proofs.order.are_apart.Given as goal

abbrev pub invariant-loop-i : goal.invariant-loop-i
invariant-loop-i l = are_apart (drop (l.i - 1) l.gaps) ≡ are_apart l.gaps
