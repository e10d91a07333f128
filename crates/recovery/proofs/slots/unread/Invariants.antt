use Rattle.std.proofs.Common.{◌≡◌}
use Rattle.recovery.proofs.slots.unread.Given as goal

abbrev pub invariant-loop : goal.invariant-loop
invariant-loop l = l.readings.len ≡ l.counter
