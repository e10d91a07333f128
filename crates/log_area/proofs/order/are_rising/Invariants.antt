use Rattle.std.proofs.Common.{◌≡◌, ◌-◌, drop}
use Rattle.base.specs.Records.{are_rising}
use Rattle.log_area.proofs.order.are_rising.Given as goal

abbrev pub invariant-loop-i : goal.invariant-loop-i
invariant-loop-i l = are_rising (drop (l.i - 1) l.timestamps) ≡ are_rising l.timestamps
