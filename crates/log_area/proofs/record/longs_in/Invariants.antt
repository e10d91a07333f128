use Rattle.std.proofs.Common.{◌≡◌, ℕ, ◌<◌, ◌+◌, length, get_or}
use Rattle.log_area.proofs.record.longs_in.Given as goal

abbrev pub invariant-loop-i : goal.invariant-loop-i
invariant-loop-i l = record {
  count : length l.longs ≡ l.i;
  each : (k : ℕ) → k < l.i → get_or l.longs k 0 ≡ get_or l.words (20 + k) 0;
}
