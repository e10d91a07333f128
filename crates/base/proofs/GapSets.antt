-- Lists of gaps as sets of timestamps.
use Rattle.std.proofs.Common.{◌≡◌, ◌⊎◌, inl, inr, ℕ, ◌+◌, ◌≤◌, true, ◌&&◌, nat_le, List, [], ◌∷◌, arith}
use Rattle.std.proofs.lemmas.Bool.{leb-true, le-leb, and_parts, and_from, or_cases, or_left, or_right}
use Rattle.base.specs.declared.gap.Gap.{Gap}
use Rattle.base.specs.Records.{is_in}

abbrev pub Within : Gap → ℕ → Type 0
Within gap t = (gap.first ≤ t) × (t ≤ gap.last)

abbrev pub In : List Gap → ℕ → Type 0
In [] t = ⊥
In (gap ∷ gaps) t = Within gap t ⊎ In gaps t

-- from a bound on, each gap holds something and begins apart from the one before it
abbrev pub Tidy : ℕ → List Gap → Type 0
Tidy low [] = Unit {0}
Tidy low (gap ∷ gaps) = (low ≤ gap.first) × (gap.first ≤ gap.last) × Tidy (gap.last + 2) gaps

pub tidy-lower : (low high : ℕ) (gaps : List Gap) → low ≤ high → Tidy high gaps → Tidy low gaps
tidy-lower low high [] le t = tt
tidy-lower low high (gap ∷ gaps) le (a, b, rest) = (omega (arith, le, a), b, rest)

pub in-low : (low : ℕ) (gaps : List Gap) (t : ℕ) → Tidy low gaps → In gaps t → low ≤ t
in-low low [] t tidy none = absurd none
in-low low (gap ∷ gaps) t (a, b, rest) (inl w) = omega (arith, a, w.0)
in-low low (gap ∷ gaps) t (a, b, rest) (inr more) = omega (arith, a, b, in-low (gap.last + 2) gaps t rest more)

pub in-from : (gaps : List Gap) (t : ℕ) → is_in gaps t ≡ true → In gaps t
in-from [] t e = cc
in-from (gap ∷ gaps) t e = grind (arith, or_cases, in-from gaps t, and_parts, leb-true)

pub in-test : (gaps : List Gap) (t : ℕ) → In gaps t → is_in gaps t ≡ true
in-test [] t none = absurd none
in-test (gap ∷ gaps) t (inl w) = or_left (nat_le gap.first t && nat_le t gap.last) (is_in gaps t) (and_from (nat_le gap.first t) (nat_le t gap.last) (le-leb gap.first t w.0) (le-leb t gap.last w.1))
in-test (gap ∷ gaps) t (inr more) = or_right (nat_le gap.first t && nat_le t gap.last) (is_in gaps t) (in-test gaps t more)
