-- The gaps of an opened record are one list: they cover what they should, in order and apart.
use Rattle.std.proofs.Common.{◌≡◌, ◌⊎◌, inl, inr, ℕ, ◌+◌, ◌-◌, ◌<◌, ◌≤◌, min, max, Bool, true, false, cond, ◌&&◌, ◌||◌, nat_eq, nat_lt, nat_le, List, [], ◌∷◌, refl, sym, arith}
use Rattle.std.specs.Prelude.{fold}
use Rattle.std.specs.List.{list_any, list_all}
use Rattle.std.proofs.lemmas.Bool.{ltb-true, ltb-false, leb-true, lt-ltb, le-leb, eqb-true, eq-eqb, and_parts, and_from, or_cases, or_left, or_right, cases_lt}
use Rattle.std.specs.Cmp.{both_ways}
use Rattle.base.specs.declared.gap.Gap.{Gap}
use Rattle.base.specs.Records.{Record, is_in, are_apart, is_well_formed, with_gap, with_skipped, opened_gaps}
use Rattle.machine.specs.Openings.{IsOpenedGaps}
use Rattle.base.proofs.WellFormed.{well_formed-parts}
use Rattle.base.proofs.GapSets.{Within, In, Tidy, tidy-lower, in-low, in-from, in-test}

-- Tests and facts

-- a list that passes the tests is tidy
tidy-from : (test : Gap → Bool) → ((gap : Gap) → test gap ≡ true → gap.first ≤ gap.last) → (low : ℕ) (gap : Gap) (gaps : List Gap) → low ≤ gap.first
    → list_all test (gap ∷ gaps) ≡ true → are_apart (gap ∷ gaps) ≡ true → Tidy low (gap ∷ gaps)
tidy-from test ordered low gap [] le all apart = (le, ordered gap (and_parts (test gap) _ all).0, tt)
tidy-from test ordered low gap (next ∷ gaps) le all apart =
    let both = and_parts (test gap) (list_all test (next ∷ gaps)) all in
    let split = and_parts (nat_lt (gap.last + 1) next.first) (are_apart (next ∷ gaps)) apart in
    (le, ordered gap both.0, tidy-from test ordered (gap.last + 2) next gaps (omega (arith, ltb-true (gap.last + 1) next.first split.0)) both.1 split.1)

tidy-all : (test : Gap → Bool) → ((gap : Gap) → test gap ≡ true → gap.first ≤ gap.last) → (gaps : List Gap) → list_all test gaps ≡ true → are_apart gaps ≡ true → Tidy 0 gaps
tidy-all test ordered [] all apart = tt
tidy-all test ordered (gap ∷ gaps) all apart = tidy-from test ordered 0 gap gaps (omega arith) all apart

tidy-ordered : (low : ℕ) (gaps : List Gap) → Tidy low gaps → list_all (λ gap. nat_le gap.first gap.last) gaps ≡ true
tidy-ordered low [] tidy = refl
tidy-ordered low (gap ∷ gaps) (a, b, rest) = and_from (nat_le gap.first gap.last) (list_all (λ g. nat_le g.first g.last) gaps) (le-leb gap.first gap.last b) (tidy-ordered (gap.last + 2) gaps rest)

tidy-apart : (low : ℕ) (gaps : List Gap) → Tidy low gaps → are_apart gaps ≡ true
tidy-apart low [] tidy = refl
tidy-apart low (gap ∷ []) tidy = refl
tidy-apart low (gap ∷ next ∷ gaps) (a, b, rest) =
    and_from (nat_lt (gap.last + 1) next.first) (are_apart (next ∷ gaps)) (lt-ltb (gap.last + 1) next.first (omega (arith, rest.0))) (tidy-apart (gap.last + 2) (next ∷ gaps) rest)

-- One gap more

abbrev joined : Gap → Gap → Gap
joined a b = record { first = min a.first b.first; last = max a.last b.last }

tidy-with : (low : ℕ) (added : Gap) (gaps : List Gap) → low ≤ added.first → added.first ≤ added.last → Tidy low gaps → Tidy low (with_gap added gaps)
tidy-with low added [] a b tidy = (a, b, tt)
tidy-with low added (gap ∷ gaps) a b (c, d, rest) =
    by (nat_lt (gap.last + 1) added.first) refl (nat_lt (added.last + 1) gap.first) refl
    (λ h. tidy-with (gap.last + 2) added gaps h b rest)
    (tidy-with low (joined added gap) gaps (omega (arith, a, c)) (omega (arith, b, d)) (tidy-lower low (gap.last + 2) gaps (omega (arith, c, d)) rest))
  where
    by : (p : Bool) → nat_lt (gap.last + 1) added.first ≡ p → (q : Bool) → nat_lt (added.last + 1) gap.first ≡ q
        → (gap.last + 2 ≤ added.first → Tidy (gap.last + 2) (with_gap added gaps)) → Tidy low (with_gap (joined added gap) gaps)
        → Tidy low (cond p (gap ∷ with_gap added gaps) (cond q (added ∷ gap ∷ gaps) (with_gap (joined added gap) gaps)))
    by true e q f after join = (c, d, after (omega (arith, ltb-true (gap.last + 1) added.first e)))
    by false e true f after join = (a, b, (omega (arith, ltb-true (added.last + 1) gap.first f), d, rest))
    by false e false f after join = join

-- it has what it had, and the gap
in-with : (low : ℕ) (added : Gap) (gaps : List Gap) (t : ℕ) → added.first ≤ added.last → Tidy low gaps → In (with_gap added gaps) t → Within added t ⊎ In gaps t
in-with low added [] t b tidy (inl w) = inl w
in-with low added [] t b tidy (inr none) = absurd none
in-with low added (gap ∷ gaps) t b (c, d, rest) is =
    by (nat_lt (gap.last + 1) added.first) (nat_lt (added.last + 1) gap.first) refl refl
    (λ h. in-with (gap.last + 2) added gaps t b rest h)
    (λ h. in-with (gap.last + 2) (joined added gap) gaps t (omega (arith, b, d)) rest h) is
  where
    other : Within added t ⊎ In gaps t → Within added t ⊎ In (gap ∷ gaps) t
    other (inl w) = inl w
    other (inr more) = inr (inr more)

    apart : (added.first ≤ t) ⊎ (t < added.first) → (t ≤ added.last) ⊎ (added.last < t) → nat_lt (gap.last + 1) added.first ≡ false → nat_lt (added.last + 1) gap.first ≡ false → Within (joined added gap) t → Within added t ⊎ In (gap ∷ gaps) t
    apart (inl x) (inl y) e f w = inl (x, y)
    apart (inl x) (inr y) e f w = inr (inl (omega (arith, x, y, ltb-false (added.last + 1) gap.first f, w.0), omega (arith, x, y, w.1)))
    apart (inr x) y e f w = inr (inl (omega (arith, x, w.0), omega (arith, x, ltb-false (gap.last + 1) added.first e)))

    at_most : (m n : ℕ) → (m ≤ n) ⊎ (n < m)
    at_most m n = grind (arith)

    split : nat_lt (gap.last + 1) added.first ≡ false → nat_lt (added.last + 1) gap.first ≡ false → Within (joined added gap) t ⊎ In gaps t → Within added t ⊎ In (gap ∷ gaps) t
    split e f (inl w) = apart (at_most added.first t) (at_most t added.last) e f w
    split e f (inr more) = inr (inr more)

    by : (p q : Bool) → nat_lt (gap.last + 1) added.first ≡ p → nat_lt (added.last + 1) gap.first ≡ q → (In (with_gap added gaps) t → Within added t ⊎ In gaps t) → (In (with_gap (joined added gap) gaps) t → Within (joined added gap) t ⊎ In gaps t)
        → In (cond p (gap ∷ with_gap added gaps) (cond q (added ∷ gap ∷ gaps) (with_gap (joined added gap) gaps))) t → Within added t ⊎ In (gap ∷ gaps) t
    by true q e f one two (inl w) = inr (inl w)
    by true q e f one two (inr more) = other (one more)
    by false true e f one two (inl w) = inl w
    by false true e f one two (inr more) = inr more
    by false false e f one two h = split e f (two h)

with-in : (added : Gap) (gaps : List Gap) (t : ℕ) → Within added t ⊎ In gaps t → In (with_gap added gaps) t
with-in added [] t (inl w) = inl w
with-in added [] t (inr none) = absurd none
with-in added (gap ∷ gaps) t is =
    by (nat_lt (gap.last + 1) added.first) (nat_lt (added.last + 1) gap.first) (λ h. with-in added gaps t h) (λ h. with-in (joined added gap) gaps t h) is
  where
    join : Within added t ⊎ In (gap ∷ gaps) t → Within (joined added gap) t ⊎ In gaps t
    join (inl w) = inl (omega (arith, w.0), omega (arith, w.1))
    join (inr (inl w)) = inl (omega (arith, w.0), omega (arith, w.1))
    join (inr (inr more)) = inr more

    later : (Within added t ⊎ In gaps t → In (with_gap added gaps) t) → Within added t ⊎ In (gap ∷ gaps) t → Within gap t ⊎ In (with_gap added gaps) t
    later one (inl w) = inr (one (inl w))
    later one (inr (inl w)) = inl w
    later one (inr (inr more)) = inr (one (inr more))

    by : (p q : Bool) → (Within added t ⊎ In gaps t → In (with_gap added gaps) t) → (Within (joined added gap) t ⊎ In gaps t → In (with_gap (joined added gap) gaps) t)
        → Within added t ⊎ In (gap ∷ gaps) t → In (cond p (gap ∷ with_gap added gaps) (cond q (added ∷ gap ∷ gaps) (with_gap (joined added gap) gaps))) t
    by true q one two h = later one h
    by false true one two h = h
    by false false one two h = two (join h)

-- Long commits

abbrev point : ℕ → Gap
point t = record { first = t; last = t }

abbrev with_points : List Gap → List ℕ → List Gap
with_points gaps longs = fold (λ gaps t. with_gap (point t) gaps) gaps longs

tidy-points : (longs : List ℕ) (gaps : List Gap) → Tidy 0 gaps → Tidy 0 (with_points gaps longs)
tidy-points [] gaps tidy = tidy
tidy-points (u ∷ longs) gaps tidy = tidy-points longs (with_gap (point u) gaps) (tidy-with 0 (point u) gaps (omega arith) (omega arith) tidy)

in-points : (longs : List ℕ) (gaps : List Gap) (t : ℕ) → Tidy 0 gaps → In (with_points gaps longs) t → In gaps t ⊎ (list_any (nat_eq t) longs ≡ true)
in-points [] gaps t tidy is = inl is
in-points (u ∷ longs) gaps t tidy is = by (in-points longs (with_gap (point u) gaps) t (tidy-with 0 (point u) gaps (omega arith) (omega arith) tidy) is)
  where
    or_point : Within (point u) t ⊎ In gaps t → In gaps t ⊎ ((nat_eq t u || list_any (nat_eq t) longs) ≡ true)
    or_point (inl w) = inr (or_left (nat_eq t u) (list_any (nat_eq t) longs) (eq-eqb t u (omega (arith, w.0, w.1))))
    or_point (inr is) = inl is

    by : In (with_gap (point u) gaps) t ⊎ (list_any (nat_eq t) longs ≡ true) → In gaps t ⊎ ((nat_eq t u || list_any (nat_eq t) longs) ≡ true)
    by (inl is) = or_point (in-with 0 (point u) gaps t (omega arith) tidy is)
    by (inr e) = inr (or_right (nat_eq t u) (list_any (nat_eq t) longs) e)

points-in : (longs : List ℕ) (gaps : List Gap) (t : ℕ) → In gaps t ⊎ (list_any (nat_eq t) longs ≡ true) → In (with_points gaps longs) t
points-in [] gaps t (inl is) = is
points-in [] gaps t (inr none) = cc
points-in (u ∷ longs) gaps t is = points-in longs (with_gap (point u) gaps) t (by is)
  where
    split : (nat_eq t u ≡ true) ⊎ (list_any (nat_eq t) longs ≡ true) → In (with_gap (point u) gaps) t ⊎ (list_any (nat_eq t) longs ≡ true)
    split (inl e) = inl (with-in (point u) gaps t (inl (omega (arith, eqb-true t u e), omega (arith, eqb-true t u e))))
    split (inr e) = inr e

    by : In gaps t ⊎ ((nat_eq t u || list_any (nat_eq t) longs) ≡ true) → In (with_gap (point u) gaps) t ⊎ (list_any (nat_eq t) longs ≡ true)
    by (inl is) = inl (with-in (point u) gaps t (inr is))
    by (inr e) = split (or_cases (nat_eq t u) (list_any (nat_eq t) longs) e)

-- The timestamps that are skipped on opening

abbrev skipped : Record → Gap
skipped r = record { first = r.persisted + 1; last = r.dirty - 1 }

tidy-skipped : (r : Record) (gaps : List Gap) → Tidy 0 gaps → Tidy 0 (with_skipped r gaps)
tidy-skipped r gaps tidy = grind (arith, tidy-with, ltb-true)

in-skipped : (r : Record) (gaps : List Gap) (t : ℕ) → Tidy 0 gaps → In (with_skipped r gaps) t → In gaps t ⊎ ((r.persisted < t) × (t < r.dirty))
in-skipped r gaps t tidy is = grind (arith, ltb-true, in-with)

skipped-in : (r : Record) (gaps : List Gap) (t : ℕ) → In gaps t ⊎ ((r.persisted < t) × (t < r.dirty)) → In (with_skipped r gaps) t
skipped-in r gaps t is = grind (arith, with-in, ltb-false)

-- The opened gaps

formed-tidy : (version : ℕ) (r : Record) → is_well_formed version r ≡ true → Tidy 0 r.gaps
formed-tidy version r formed = grind (arith, well_formed-parts, tidy-all, leb-true, and_parts)

pub opened-gaps : (version : ℕ) (r : Record) → is_well_formed version r ≡ true → IsOpenedGaps r (opened_gaps r)
opened-gaps version r formed =
    let tidy = formed-tidy version r formed in
    let tidy' : Tidy 0 (with_points r.gaps r.longs) = tidy-points r.longs r.gaps tidy in
    let tidy'' : Tidy 0 (opened_gaps r) = tidy-skipped r (with_points r.gaps r.longs) tidy' in
    record {
      ordered = tidy-ordered 0 (opened_gaps r) tidy'';
      apart = tidy-apart 0 (opened_gaps r) tidy'';
      same = λ t. both_ways (is_in (opened_gaps r) t) (is_in r.gaps t || list_any (nat_eq t) r.longs || (nat_lt r.persisted t && nat_lt t r.dirty))
          (λ e. forth t tidy tidy' (in-from (opened_gaps r) t e)) (λ e. in-test (opened_gaps r) t (back t (or_cases (is_in r.gaps t || list_any (nat_eq t) r.longs) (nat_lt r.persisted t && nat_lt t r.dirty) e)));
    }
  where
    point_test : (t : ℕ) → In r.gaps t ⊎ (list_any (nat_eq t) r.longs ≡ true) → (is_in r.gaps t || list_any (nat_eq t) r.longs) ≡ true
    point_test t (inl i) = or_left (is_in r.gaps t) (list_any (nat_eq t) r.longs) (in-test r.gaps t i)
    point_test t (inr e) = or_right (is_in r.gaps t) (list_any (nat_eq t) r.longs) e

    skip_test : (t : ℕ) → Tidy 0 r.gaps → In (with_points r.gaps r.longs) t ⊎ ((r.persisted < t) × (t < r.dirty)) → (is_in r.gaps t || list_any (nat_eq t) r.longs || (nat_lt r.persisted t && nat_lt t r.dirty)) ≡ true
    skip_test t tidy (inl i) = or_left (is_in r.gaps t || list_any (nat_eq t) r.longs) (nat_lt r.persisted t && nat_lt t r.dirty) (point_test t (in-points r.longs r.gaps t tidy i))
    skip_test t tidy (inr (a, b)) =
        or_right (is_in r.gaps t || list_any (nat_eq t) r.longs) (nat_lt r.persisted t && nat_lt t r.dirty) (and_from (nat_lt r.persisted t) (nat_lt t r.dirty) (lt-ltb r.persisted t a) (lt-ltb t r.dirty b))

    forth : (t : ℕ) → Tidy 0 r.gaps → Tidy 0 (with_points r.gaps r.longs) → In (opened_gaps r) t → (is_in r.gaps t || list_any (nat_eq t) r.longs || (nat_lt r.persisted t && nat_lt t r.dirty)) ≡ true
    forth t tidy tidy' i = skip_test t tidy (in-skipped r (with_points r.gaps r.longs) t tidy' i)

    back_points : (t : ℕ) → (is_in r.gaps t ≡ true) ⊎ (list_any (nat_eq t) r.longs ≡ true) → In (with_points r.gaps r.longs) t
    back_points t (inl e) = points-in r.longs r.gaps t (inl (in-from r.gaps t e))
    back_points t (inr e) = points-in r.longs r.gaps t (inr e)

    back : (t : ℕ) → ((is_in r.gaps t || list_any (nat_eq t) r.longs) ≡ true) ⊎ ((nat_lt r.persisted t && nat_lt t r.dirty) ≡ true) → In (opened_gaps r) t
    back t (inl e) = skipped-in r (with_points r.gaps r.longs) t (inl (back_points t (or_cases (is_in r.gaps t) (list_any (nat_eq t) r.longs) e)))
    back t (inr e) = let both = and_parts (nat_lt r.persisted t) (nat_lt t r.dirty) e in skipped-in r (with_points r.gaps r.longs) t (inr (ltb-true r.persisted t both.0, ltb-true t r.dirty both.1))

-- There is one such list

first-in : (gap : Gap) (gaps : List Gap) → gap.first ≤ gap.last → In (gap ∷ gaps) gap.first
first-in gap gaps le = inl (omega arith, le)

-- the head of a tidy list reaches as far as that of another with the same timestamps
head-le : (low : ℕ) (a : Gap) (xs : List Gap) (b : Gap) (ys : List Gap) → Tidy low (a ∷ xs) → Tidy low (b ∷ ys) → a.first ≡ b.first → (In (b ∷ ys) (a.last + 1) → In (a ∷ xs) (a.last + 1)) → b.last ≤ a.last
head-le low a xs b ys ta tb same back = grind (arith, cases_lt, in-low)

tail-in : (a : Gap) (xs : List Gap) (b : Gap) (ys : List Gap) (t : ℕ) → Tidy (a.last + 2) xs → a.last ≡ b.last → (In (a ∷ xs) t → In (b ∷ ys) t) → In xs t → In ys t
tail-in a xs b ys t ta same forth is = grind (arith, in-low)

one_list : (low : ℕ) (xs ys : List Gap) → Tidy low xs → Tidy low ys → ((t : ℕ) → In xs t → In ys t) → ((t : ℕ) → In ys t → In xs t) → xs ≡ ys
one_list low [] [] ta tb forth back = refl
one_list low [] (b ∷ ys) ta tb forth back = absurd (back b.first (first-in b ys tb.1))
one_list low (a ∷ xs) [] ta tb forth back = absurd (forth a.first (first-in a xs ta.1))
one_list low (a ∷ xs) (b ∷ ys) ta tb forth back =
    let above : b.first ≤ a.first = in-low b.first (b ∷ ys) a.first (omega arith, tb.1, tb.2) (forth a.first (first-in a xs ta.1)) in
    let below : a.first ≤ b.first = in-low a.first (a ∷ xs) b.first (omega arith, ta.1, ta.2) (back b.first (first-in b ys tb.1)) in
    let first : a.first ≡ b.first = omega (arith, above, below) in
    let upper : b.last ≤ a.last = head-le low a xs b ys ta tb first (back (a.last + 1)) in
    let lower : a.last ≤ b.last = head-le low b ys a xs tb ta (sym first) (forth (b.last + 1)) in
    let last : a.last ≡ b.last = omega (arith, upper, lower) in
    let rest : xs ≡ ys = one_list (a.last + 2) xs ys ta.2 (tidy-lower (a.last + 2) (b.last + 2) ys (omega (arith, last)) tb.2)
    (λ t i. tail-in a xs b ys t ta.2 last (forth t) i) (λ t i. tail-in b ys a xs t tb.2 (sym last) (back t) i) in
    (λ i. (let g : Gap = record { first = first i; last = last i } in g) ∷ rest i)

pub one_gap_list : (r : Record) (xs ys : List Gap) → IsOpenedGaps r xs → IsOpenedGaps r ys → xs ≡ ys
one_gap_list r xs ys a b = grind (arith, one_list, tidy-all, leb-true, in-from, in-test)
