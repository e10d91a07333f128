-- What a list of gaps is with one more.
use Rattle.std.proofs.Common.{◌≡◌, ℕ, ◌+◌, ◌<◌, ◌≤◌, Bool, true, false, cond, ◌&&◌, ◌||◌, List, [], ◌∷◌, refl, ◌∙◌, ap, arith, nat_lt, nat_le}
use Rattle.std.specs.Prelude.{min, max}
use Rattle.std.specs.List.{list_all}
use Rattle.std.proofs.lemmas.Bool.{and_parts, and_from, leb-true, ltb-true, ltb-false, le-leb, lt-ltb}
use Rattle.std.proofs.lemmas.Bool.Decides.{nat_tests}
use Rattle.std.proofs.Math.Bool.{or-false}
use Rattle.base.specs.declared.gap.Gap.{Gap}
use Rattle.base.specs.Records.{with_gap, is_in, are_apart}

abbrev is_up : Gap → Bool
is_up gap = nat_le gap.first gap.last

abbrev pub are_up : List Gap → Bool
are_up = list_all is_up

abbrev starts_after : ℕ → List Gap → Bool
starts_after n [] = true
starts_after n (gap ∷ gaps) = nat_lt n gap.first

abbrev pub both : Gap → Gap → Gap
both a b = record { first = min a.first b.first; last = max a.last b.last }

-- the three ways
abbrev chosen : Bool → Bool → Gap → Gap → List Gap → List Gap
chosen b c added gap gaps = cond b (gap ∷ with_gap added gaps) (cond c (added ∷ gap ∷ gaps) (with_gap (both added gap) gaps))

cons_apart : (n : ℕ) (gap : Gap) (gaps : List Gap) → gap.last + 1 ≡ n → starts_after n gaps ≡ true → are_apart gaps ≡ true → are_apart (gap ∷ gaps) ≡ true
cons_apart n gap [] e s a = refl
cons_apart n gap (next ∷ gaps) e s a = and_from _ _ (rw e s) a

apart_tail : (gap : Gap) (gaps : List Gap) → are_apart (gap ∷ gaps) ≡ true → are_apart gaps ≡ true
apart_tail gap [] a = refl
apart_tail gap (next ∷ gaps) a = (and_parts _ _ a).1

apart_head : (n : ℕ) (gap : Gap) (gaps : List Gap) → are_apart (gap ∷ gaps) ≡ true → n ≤ gap.last + 1 → starts_after n gaps ≡ true
apart_head n gap [] a le = refl
apart_head n gap (next ∷ gaps) a le = lt-ltb n next.first (omega (arith, le, ltb-true (gap.last + 1) next.first (and_parts _ _ a).0))

starts : (n : ℕ) (added : Gap) (gaps : List Gap) → n < added.first → starts_after n gaps ≡ true → are_up gaps ≡ true → are_apart gaps ≡ true → starts_after n (with_gap added gaps) ≡ true
starts n added [] lt s up a = lt-ltb n added.first lt
starts n added (gap ∷ gaps) lt s up a =
    let first : n < gap.first = ltb-true n gap.first s in
    let ups = and_parts _ _ up in
    let goes : gap.first ≤ gap.last = leb-true gap.first gap.last ups.0 in
    let rest = starts n (both added gap) gaps (omega (arith, lt, first)) (apart_head n gap gaps a (omega (arith, first, goes))) ups.1 (apart_tail gap gaps a) in
    by (nat_lt (gap.last + 1) added.first) (nat_lt (added.last + 1) gap.first) s rest
  where
    by : (b c : Bool) → nat_lt n gap.first ≡ true → starts_after n (with_gap (both added gap) gaps) ≡ true → starts_after n (chosen b c added gap gaps) ≡ true
    by true c s rest = s
    by false true s rest = lt-ltb n added.first lt
    by false false s rest = rest

-- what holds of the list's gaps and of the range, and of any two gaps as one, holds of all gaps afterwards
pub with_gap-all : (test : Gap → Bool) → ((a b : Gap) → test a ≡ true → test b ≡ true → test (both a b) ≡ true) → (added : Gap) (gaps : List Gap) → test added ≡ true → list_all test gaps ≡ true → list_all test (with_gap added gaps) ≡ true
with_gap-all test joins added [] here all = and_from _ _ here refl
with_gap-all test joins added (gap ∷ gaps) here all =
    let parts = and_parts _ _ all in
    by (nat_lt (gap.last + 1) added.first) (nat_lt (added.last + 1) gap.first) (with_gap-all test joins added gaps here parts.1) (with_gap-all test joins (both added gap) gaps (joins added gap here parts.0) parts.1)
  where
    by : (b c : Bool) → list_all test (with_gap added gaps) ≡ true → list_all test (with_gap (both added gap) gaps) ≡ true → list_all test (chosen b c added gap gaps) ≡ true
    by true c more rest = and_from _ _ (and_parts _ _ all).0 more
    by false true more rest = and_from _ _ here all
    by false false more rest = rest

pub with_gap-up : (added : Gap) (gaps : List Gap) → added.first ≤ added.last → are_up gaps ≡ true → are_up (with_gap added gaps) ≡ true
with_gap-up added gaps goes up = grind (arith, with_gap-all, le-leb, nat_tests)

pub with_gap-are_apart : (added : Gap) (gaps : List Gap) → added.first ≤ added.last → are_up gaps ≡ true → are_apart gaps ≡ true → are_apart (with_gap added gaps) ≡ true
with_gap-are_apart added [] goes up a = refl
with_gap-are_apart added (gap ∷ gaps) goes up a =
    let ups = and_parts _ _ up in
    let here : gap.first ≤ gap.last = leb-true gap.first gap.last ups.0 in
    by (nat_lt (gap.last + 1) added.first) refl (nat_lt (added.last + 1) gap.first) refl (apart_tail gap gaps a) (apart_head (gap.last + 1) gap gaps a (omega arith)) ups.1
    (with_gap-are_apart added gaps goes ups.1 (apart_tail gap gaps a)) (with_gap-are_apart (both added gap) gaps (omega (arith, goes, here)) ups.1 (apart_tail gap gaps a))
  where
    by : (b : Bool) → nat_lt (gap.last + 1) added.first ≡ b → (c : Bool) → nat_lt (added.last + 1) gap.first ≡ c → are_apart gaps ≡ true → starts_after (gap.last + 1) gaps ≡ true → are_up gaps ≡ true
        → are_apart (with_gap added gaps) ≡ true → are_apart (with_gap (both added gap) gaps) ≡ true → are_apart (chosen b c added gap gaps) ≡ true
    by true is c is' tail head ups more rest =
        cons_apart (gap.last + 1) gap (with_gap added gaps) refl (starts (gap.last + 1) added gaps (ltb-true (gap.last + 1) added.first is) head ups tail) more
    by false is true is' tail head ups more rest = and_from _ _ is' a
    by false is false is' tail head ups more rest = rest

abbrev pub is_between : Gap → ℕ → Bool
is_between gap t = nat_le gap.first t && nat_le t gap.last

-- a gap that touches another makes one gap with it
joined-same : (a g : Gap) (t : ℕ) → a.first ≤ a.last → g.first ≤ g.last → a.first ≤ g.last + 1 → g.first ≤ a.last + 1 → is_between (both a g) t ≡ (is_between g t || is_between a t)
joined-same a g t ga gg h k = grind (arith, nat_tests)

pub is_in-with_gap : (added : Gap) (gaps : List Gap) (t : ℕ) → added.first ≤ added.last → are_up gaps ≡ true → is_in (with_gap added gaps) t ≡ (is_in gaps t || is_between added t)
is_in-with_gap added [] t goes up = or-false (is_between added t)
is_in-with_gap added (gap ∷ gaps) t goes up =
    let ups = and_parts _ _ up in
    let here : gap.first ≤ gap.last = leb-true gap.first gap.last ups.0 in
    by (nat_lt (gap.last + 1) added.first) refl (nat_lt (added.last + 1) gap.first) refl here
    (is_in-with_gap added gaps t goes ups.1) (is_in-with_gap (both added gap) gaps t (omega (arith, goes, here)) ups.1)
  where
    shift : (x y z : Bool) → (x || (y || z)) ≡ ((x || y) || z)
    shift true y z = refl
    shift false y z = refl

    turn : (x y z : Bool) → (z || (x || y)) ≡ ((x || y) || z)
    turn true true true = refl
    turn true true false = refl
    turn true false true = refl
    turn true false false = refl
    turn false true true = refl
    turn false true false = refl
    turn false false true = refl
    turn false false false = refl

    under : (x y z : Bool) → (y || (x || z)) ≡ ((x || y) || z)
    under true true true = refl
    under true true false = refl
    under true false true = refl
    under true false false = refl
    under false true true = refl
    under false true false = refl
    under false false true = refl
    under false false false = refl

    by : (b : Bool) → nat_lt (gap.last + 1) added.first ≡ b → (c : Bool) → nat_lt (added.last + 1) gap.first ≡ c → gap.first ≤ gap.last
        → is_in (with_gap added gaps) t ≡ (is_in gaps t || is_between added t) → is_in (with_gap (both added gap) gaps) t ≡ (is_in gaps t || is_between (both added gap) t)
        → is_in (chosen b c added gap gaps) t ≡ ((is_between gap t || is_in gaps t) || is_between added t)
    by true is c is' here more rest = ap (λ (x : Bool). is_between gap t || x) more ∙ shift (is_between gap t) (is_in gaps t) (is_between added t)
    by false is true is' here more rest = turn (is_between gap t) (is_in gaps t) (is_between added t)
    by false is false is' here more rest =
        rest ∙ ap (λ (x : Bool). is_in gaps t || x) (joined-same added gap t goes here (ltb-false (gap.last + 1) added.first is) (ltb-false (added.last + 1) gap.first is'))
        ∙ under (is_between gap t) (is_in gaps t) (is_between added t)
