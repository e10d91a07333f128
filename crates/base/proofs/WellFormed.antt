-- The parts of a well-formed record.
use Rattle.std.proofs.Common.{◌≡◌, ℕ, ◌^◌, ◌<◌, ◌≤◌, Bool, true, not, ◌&&◌, List, length, nat_le, arith}
use Rattle.std.specs.List.{list_all}
use Rattle.std.proofs.lemmas.Bool.{and_parts, leb-true, ltb-true, le-leb, lt-ltb}
use Rattle.base.specs.declared.gap.Gap.{Gap}
use Rattle.base.specs.Layout.{most_longs}
use Rattle.base.specs.Records.{Record, is_in, are_apart, are_rising, is_well_formed}

-- each gap is from 1 to the bound
abbrev pub are_up_to : ℕ → List Gap → Bool
are_up_to bound gaps = list_all (λ gap. nat_le 1 gap.first && nat_le gap.first gap.last && nat_le gap.last bound) gaps

-- each long commit does, outside the gaps
abbrev pub are_longs : ℕ → List Gap → List ℕ → Bool
are_longs bound gaps longs = list_all (λ t. nat_le 1 t && nat_le t bound && not (is_in gaps t)) longs

pub record WellFormed (version : ℕ) (r : Record) : Type 0 where
  pub below : r.persisted < r.dirty
  pub limit : r.dirty < 2 ^ 62
  pub few : length r.gaps ≤ 8
  pub fewer : length r.longs ≤ most_longs version
  pub each : are_up_to r.persisted r.gaps ≡ true
  pub apart : are_apart r.gaps ≡ true
  pub within : are_longs r.persisted r.gaps r.longs ≡ true
  pub rising : are_rising r.longs ≡ true

pub well_formed-parts : (version : ℕ) (r : Record) → is_well_formed version r ≡ true → WellFormed version r
well_formed-parts version r is = grind (arith, and_parts, ltb-true, leb-true)

pub well_formed-from : (version : ℕ) (r : Record) → WellFormed version r → is_well_formed version r ≡ true
well_formed-from version r w = grind (arith, lt-ltb, le-leb)
