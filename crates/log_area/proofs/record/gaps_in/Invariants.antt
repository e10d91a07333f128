use Rattle.std.proofs.Common.{◌≡◌, ℕ, ◌<◌, ◌+◌, ◌*◌, length, get_or}
use Rattle.base.specs.declared.gap.Gap.{Gap}
use Rattle.base.specs.Records.{no_gap}
use Rattle.log_area.proofs.record.gaps_in.Given as goal

abbrev pub invariant-loop-i : goal.invariant-loop-i
invariant-loop-i l = record {
  count : length l.gaps ≡ l.i;
  each : (k : ℕ) → k < l.i → get_or l.gaps k no_gap ≡ (let gap : Gap = record { first = get_or l.words (4 + 2 * k) 0; last = get_or l.words (5 + 2 * k) 0 } in gap);
}
