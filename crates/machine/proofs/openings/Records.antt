-- What the record that is written on opening commits, with and without a sweep.
use Rattle.std.proofs.Common.{◌≡◌, ℕ, ◌+◌, ◌-◌, ◌^◌, ◌<◌, ◌≤◌, Bool, true, false, cond, not, ◌&&◌, ◌||◌, List, [], ◌∷◌, length, refl, arith, nat_eq, nat_le}
use Rattle.std.specs.List.{list_any, list_all}
use Rattle.std.proofs.lemmas.Bool.{and_parts, or_cases, ltb-true, ltb-false, le-leb, false≢true}
use Rattle.std.proofs.lemmas.Bool.Decides.{nat_tests}
use Rattle.base.specs.declared.gap.Gap.{Gap}
use Rattle.base.specs.Layout.{Layout}
use Rattle.base.specs.Records.{Record, is_committed, is_in, is_well_formed}
use Rattle.machine.specs.Openings.{IsOpenedGaps, opening_record, gaps_kept}
use Rattle.base.proofs.WellFormed.{WellFormed, are_up_to, well_formed-parts, well_formed-from}

uncovered : (p q y z : Bool) → (y || z) ≡ true → (p && not true && not false) ≡ (q && not y && not z)
uncovered a b y z e = grind (arith)

-- below the old dirty timestamp both records commit the same
pub same-committed : (a : Layout) (r : Record) (gaps : List Gap) (t : ℕ) → IsOpenedGaps r gaps → t < r.dirty → is_committed (opening_record a r gaps) t ≡ is_committed r t
same-committed a r gaps t covers below = grind (arith, uncovered, nat_tests)

-- what is in a gap after opening wasn't committed before
pub uncommitted-in : (r : Record) (gaps : List Gap) (t : ℕ) → IsOpenedGaps r gaps → is_in gaps t ≡ true → is_committed r t ≡ false
uncommitted-in r gaps t covers there = grind (arith, uncovered, nat_tests)

-- with its gaps swept, a record without gaps commits of what is left what the old one committed
pub swept-committed : (a : Layout) (r : Record) (gaps : List Gap) (t : ℕ) → IsOpenedGaps r gaps → t < r.dirty → is_committed (opening_record a r []) (cond (is_in gaps t) 0 t) ≡ is_committed r t
swept-committed a r gaps t covers below = grind (arith, uncommitted-in, nat_tests)

-- with the gaps kept or swept, it commits what was committed
pub still-committed : (a : Layout) (r : Record) (gaps : List Gap) (t : ℕ) → IsOpenedGaps r gaps → t < r.dirty → is_committed r t ≡ true → is_committed (opening_record a r (gaps_kept gaps)) t ≡ true
still-committed a r gaps t covers below counts = grind (arith, same-committed, false≢true, uncommitted-in, swept-committed)

-- ---- the form of the record

-- between 1 and a bound
abbrev pub IsUpTo : ℕ → ℕ → Type 0
IsUpTo bound t = (1 ≤ t) × (t ≤ bound)

in-up_to : (bound t : ℕ) (gaps : List Gap) → are_up_to bound gaps ≡ true → is_in gaps t ≡ true → IsUpTo bound t
in-up_to bound t [] all there = absurd (false≢true there)
in-up_to bound t (gap ∷ gaps) all there = grind (arith, in-up_to bound t gaps)

long-up_to : (bound t : ℕ) (gaps : List Gap) (longs : List ℕ) → list_all (λ t. nat_le 1 t && nat_le t bound && not (is_in gaps t)) longs ≡ true
    → list_any (nat_eq t) longs ≡ true → IsUpTo bound t
long-up_to bound t gaps [] all there = absurd (false≢true there)
long-up_to bound t gaps (long ∷ longs) all there = grind (arith, long-up_to bound t gaps longs)

up_to-in : (bound : ℕ) (gaps : List Gap) → list_all (λ gap. nat_le gap.first gap.last) gaps ≡ true → ((t : ℕ) → is_in gaps t ≡ true → IsUpTo bound t) → are_up_to bound gaps ≡ true
up_to-in bound [] ordered each = refl
up_to-in bound (gap ∷ gaps) ordered each = grind (arith, le-leb, up_to-in bound gaps)

-- the gaps are below the old dirty timestamp
gaps-below : (version : ℕ) (r : Record) (gaps : List Gap) → WellFormed version r → IsOpenedGaps r gaps → are_up_to (r.dirty - 1) gaps ≡ true
gaps-below version r gaps formed opened = grind (arith, up_to-in, or_cases, in-up_to, long-up_to, and_parts, ltb-true)

pub formed-over : (version : ℕ) (a : Layout) (r : Record) (gaps : List Gap) → is_well_formed version r ≡ true → IsOpenedGaps r gaps → length gaps ≤ 8 → 0 < a.window → r.dirty + a.window < 2 ^ 62
    → is_well_formed version (opening_record a r gaps) ≡ true
formed-over version a r gaps well opened few some room = grind (arith, gaps-below version r gaps (well_formed-parts version r well), nat_tests)

-- with the gaps kept or swept, the record is well formed
pub formed-kept : (version : ℕ) (a : Layout) (r : Record) (gaps : List Gap) → is_well_formed version r ≡ true → IsOpenedGaps r gaps → 0 < a.window → r.dirty + a.window < 2 ^ 62
    → is_well_formed version (opening_record a r (gaps_kept gaps)) ≡ true
formed-kept version a r gaps well opened some room = grind (arith, formed-over version a r gaps well opened, ltb-false 8 (length gaps), well_formed-from version (opening_record a r []))
