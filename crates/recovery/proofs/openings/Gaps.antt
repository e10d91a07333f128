-- The gaps with which an image is opened, added by rising timestamp.
use Rattle.std.proofs.Common.{◌≡◌, ◌⊎◌, inl, inr, ℕ, zero, suc, ◌+◌, ◌-◌, ◌<◌, ◌≤◌, Bool, true, false, not, ◌&&◌, ◌||◌, nat_eq, nat_lt, nat_le, List, [], ◌∷◌, length, get_or, refl, sym, ◌∙◌, ap, subst, arith}
use Rattle.std.specs.List.{list_any, list_all}
use Rattle.std.proofs.lemmas.Bool.{ltb-true, leb-true, lt-ltb, le-leb, eqb-true, eq-eqb, and_parts, and_from, or_cases, or_left, or_right, cases_lt}
use Rattle.std.specs.Cmp.{both_ways}
use Rattle.std.proofs.lemmas.Bool.Decides.{nat_tests}
use Rattle.base.specs.declared.gap.Gap.{Gap}
use Rattle.base.specs.Records.{Record, is_in, are_apart, are_rising, no_gap, with_gap, opened_gaps}
use Rattle.machine.specs.Openings.{IsOpenedGaps}
use Rattle.base.proofs.WellFormed.{well_formed-parts}
use Rattle.machine.proofs.openings.GapLists.{opened-gaps, one_gap_list}
use Rattle.base.proofs.Lists.{rising-rest}
use Rattle.base.proofs.GapSets.{Within, In, Tidy, tidy-lower, in-low, in-from, in-test}
use Rattle.gap_list.specs.GapLists.{is_gap_list}
use Rattle.gap_list.proofs.Tidy.{gap_list-up, well_formed-tidy, with_gap-tidy}
use Rattle.gap_list.proofs.WithGap.{are_up, with_gap-up, with_gap-are_apart, is_between, is_in-with_gap}
use Rattle.recovery.specs.Gaps.{MayRule, HasUpTo, HasLongsBetween}

-- ---- lists of gaps as sets

tidy-head : (low : ℕ) (gap : Gap) (gaps : List Gap) → low ≤ gap.first → are_up (gap ∷ gaps) ≡ true → are_apart (gap ∷ gaps) ≡ true → Tidy low (gap ∷ gaps)
tidy-head low gap [] le up apart = (le, leb-true gap.first gap.last (and_parts _ _ up).0, tt)
tidy-head low gap (next ∷ gaps) le up apart = grind (arith, and_parts, leb-true, tidy-head (gap.last + 2) next gaps, ltb-true)

tidy-all : (gaps : List Gap) → are_up gaps ≡ true → are_apart gaps ≡ true → Tidy 0 gaps
tidy-all [] up apart = tt
tidy-all (gap ∷ gaps) up apart = tidy-head 0 gap gaps (omega arith) up apart

tidy-list : (gaps : List Gap) → is_gap_list gaps ≡ true → Tidy 1 gaps
tidy-list [] is = tt
tidy-list (gap ∷ gaps) is = grind (arith, and_parts, tidy-head, leb-true, gap_list-up, nat_tests)

-- ---- a list that has all that another has up to a bound isn't shorter

fewer : (low bound : ℕ) (xs ys : List Gap) → Tidy low xs → Tidy low ys → ((t : ℕ) → In xs t → t ≤ bound) → ((t : ℕ) → In xs t → In ys t) → ((t : ℕ) → t ≤ bound → In ys t → In xs t) → length xs ≤ length ys
fewer low bound [] ys tx ty under forth back = omega arith
fewer low bound (a ∷ xs) [] (la, ua, ta) ty under forth back = absurd (forth a.first (inl (omega arith, ua)))
fewer low bound (a ∷ xs) (b ∷ ys) (la, ua, ta) (lb, ub, tb) under forth back =
    by (fewer (a.last + 2) bound xs ys ta) (cases_lt a.last bound)
  where
    top : a.last ≤ bound
    top = under a.last (inl (ua, omega arith))

    below : b.first ≤ a.first
    below = in-low b.first (b ∷ ys) a.first (omega arith, ub, tb) (forth a.first (inl (omega arith, ua)))

    above : a.first ≤ b.first
    above = in-low a.first (a ∷ xs) b.first (omega arith, ua, ta) (back b.first (omega (arith, below, ua, top)) (inl (omega arith, ub)))

    past : In (a ∷ xs) (a.last + 1) → ⊥
    past (inl w) = omega (arith, w.1)
    past (inr more) = omega (arith, in-low (a.last + 2) xs (a.last + 1) ta more)

    past' : In (b ∷ ys) (b.last + 1) → ⊥
    past' (inl w) = omega (arith, w.1)
    past' (inr more) = omega (arith, in-low (b.last + 2) ys (b.last + 1) tb more)

    lower : (b.last < a.last) ⊎ (a.last ≤ b.last) → a.last ≤ b.last
    lower (inl h) = absurd (past' (forth (b.last + 1) (inl (omega (arith, below, above, ub), omega (arith, h)))))
    lower (inr h) = h

    upper : a.last < bound → (a.last < b.last) ⊎ (b.last ≤ a.last) → b.last ≤ a.last
    upper lt (inl h) = absurd (past (back (a.last + 1) (omega (arith, lt)) (inl (omega (arith, below, above, ua), omega (arith, h)))))
    upper lt (inr h) = h

    last_one : bound ≤ a.last → (zs : List Gap) → Tidy (a.last + 2) zs → ((t : ℕ) → In zs t → t ≤ bound) → length (a ∷ zs) ≤ length (b ∷ ys)
    last_one le [] tz each = omega arith
    last_one le (z ∷ zs) (lz, uz, tz) each = absurd (omega (arith, le, lz, each z.first (inl (omega arith, uz))))

    rest : (Tidy (a.last + 2) ys → ((t : ℕ) → In xs t → t ≤ bound) → ((t : ℕ) → In xs t → In ys t) → ((t : ℕ) → t ≤ bound → In ys t → In xs t) → length xs ≤ length ys)
        → a.last ≤ b.last → b.last ≤ a.last → length (a ∷ xs) ≤ length (b ∷ ys)
    rest more le ge =
        omega (
          arith,
          more (tidy-lower (a.last + 2) (b.last + 2) ys (omega (arith, le)) tb) (λ t i. under t (inr i))
              (λ t i. elim (forth t (inr i)) [ inl w ↦ absurd (omega (arith, w.1, ge, in-low (a.last + 2) xs t ta i)) | inr more ↦ more ])
              (λ t h i. elim (back t h (inr i)) [ inl w ↦ absurd (omega (arith, w.1, le, in-low (b.last + 2) ys t tb i)) | inr more ↦ more ]),
        )

    by : (Tidy (a.last + 2) ys → ((t : ℕ) → In xs t → t ≤ bound) → ((t : ℕ) → In xs t → In ys t) → ((t : ℕ) → t ≤ bound → In ys t → In xs t) → length xs ≤ length ys)
        → (a.last < bound) ⊎ (bound ≤ a.last) → length (a ∷ xs) ≤ length (b ∷ ys)
    by more (inl lt) = rest more (lower (cases_lt b.last a.last)) (upper lt (cases_lt a.last b.last))
    by more (inr le) = last_one le xs ta (λ t i. under t (inr i))

-- ---- the record's own gaps, one after another

-- the last timestamp of the gap before this one
abbrev end_of : ℕ → List Gap → ℕ → ℕ
end_of e gaps zero = e
end_of e [] (suc i) = e
end_of e (gap ∷ gaps) (suc i) = end_of gap.last gaps i

end-step : (e : ℕ) (gaps : List Gap) (i : ℕ) → i < length gaps → (get_or gaps i no_gap).last ≡ end_of e gaps (i + 1)
end-step e [] i h = absurd (omega (arith, h))
end-step e (gap ∷ gaps) zero h = refl
end-step e (gap ∷ gaps) (suc i) h =
    let up : suc i + 1 ≡ suc (i + 1) = omega arith in
    end-step gap.last gaps i (omega (arith, h)) ∙ sym (ap (end_of e (gap ∷ gaps)) up)

end-grows : (e : ℕ) (gaps : List Gap) (i : ℕ) → Tidy (e + 1) gaps → e ≤ end_of e gaps i
end-grows e gaps zero tidy = omega arith
end-grows e [] (suc i) tidy = omega arith
end-grows e (gap ∷ gaps) (suc i) (a, b, rest) = omega (arith, a, b, end-grows gap.last gaps i (tidy-lower (gap.last + 1) (gap.last + 2) gaps (omega arith) rest))

end-below : (e : ℕ) (gaps : List Gap) (i : ℕ) → Tidy (e + 1) gaps → i < length gaps → end_of e gaps i < (get_or gaps i no_gap).first
end-below e [] i tidy h = absurd (omega (arith, h))
end-below e (gap ∷ gaps) zero (a, b, rest) h = omega (arith, a)
end-below e (gap ∷ gaps) (suc i) (a, b, rest) h = end-below gap.last gaps i (tidy-lower (gap.last + 1) (gap.last + 2) gaps (omega arith) rest) (omega (arith, h))

none-at : (e : ℕ) (gaps : List Gap) (i t : ℕ) → Tidy (e + 1) gaps → end_of e gaps i < t → (i < length gaps → t < (get_or gaps i no_gap).first) → i ≤ length gaps → In gaps t → ⊥
none-at e [] i t tidy above below le is = is
none-at e (gap ∷ gaps) zero t (a, b, rest) above below le (inl w) = omega (arith, w.0, below (omega arith))
none-at e (gap ∷ gaps) zero t (a, b, rest) above below le (inr more) = omega (arith, b, below (omega arith), in-low (gap.last + 2) gaps t rest more)
none-at e (gap ∷ gaps) (suc i) t (a, b, rest) above below le (inl w) = omega (arith, w.1, above, end-grows gap.last gaps i (tidy-lower (gap.last + 1) (gap.last + 2) gaps (omega arith) rest))
none-at e (gap ∷ gaps) (suc i) t (a, b, rest) above below le (inr more) =
    none-at gap.last gaps i t (tidy-lower (gap.last + 1) (gap.last + 2) gaps (omega arith) rest) above (λ h. below (omega (arith, h))) (omega (arith, le)) more

in-at : (gaps : List Gap) (i t : ℕ) → i < length gaps → Within (get_or gaps i no_gap) t → In gaps t
in-at [] i t h w = absurd (omega (arith, h))
in-at (gap ∷ gaps) zero t h w = inl w
in-at (gap ∷ gaps) (suc i) t h w = inr (in-at gaps i t (omega (arith, h)) w)

all-at : (test : Gap → Bool) (gaps : List Gap) (i : ℕ) → list_all test gaps ≡ true → i < length gaps → test (get_or gaps i no_gap) ≡ true
all-at test [] i all h = absurd (omega (arith, h))
all-at test (gap ∷ gaps) zero all h = (and_parts _ _ all).0
all-at test (gap ∷ gaps) (suc i) all h = all-at test gaps i (and_parts _ _ all).1 (omega (arith, h))

-- ---- long commits, one after another

rising-first : (a : ℕ) (ts : List ℕ) (k : ℕ) → are_rising (a ∷ ts) ≡ true → k < length ts → a < get_or ts k 0
rising-first a [] k rises h = absurd (omega (arith, h))
rising-first a (b ∷ ts) zero rises h = ltb-true a b (and_parts _ _ rises).0
rising-first a (b ∷ ts) (suc k) rises h = let parts = and_parts (nat_lt a b) (are_rising (b ∷ ts)) rises in omega (arith, ltb-true a b parts.0, rising-first b ts k parts.1 (omega (arith, h)))

rising-at : (ts : List ℕ) (j k : ℕ) → are_rising ts ≡ true → j < k → k < length ts → get_or ts j 0 < get_or ts k 0
rising-at [] j k rises lt h = absurd (omega (arith, h))
rising-at (a ∷ ts) j zero rises lt h = absurd (omega (arith, lt))
rising-at (a ∷ ts) zero (suc k) rises lt h = rising-first a ts k rises (omega (arith, h))
rising-at (a ∷ ts) (suc j) (suc k) rises lt h = rising-at ts j k (rising-rest a ts rises) (omega (arith, lt)) (omega (arith, h))

any-at : (t : ℕ) (ts : List ℕ) → list_any (nat_eq t) ts ≡ true → (j : ℕ) × (j < length ts) × (get_or ts j 0 ≡ t)
any-at t [] is = absurd (cc is)
any-at t (a ∷ ts) is = elim (or_cases (nat_eq t a) (list_any (nat_eq t) ts) is) [
  | inl here ↦ (0, omega arith, sym (eqb-true t a here))
  | inr more ↦ (let found = any-at t ts more in (suc found.0, omega (arith, found.1), found.2))
]

at-any : (t : ℕ) (ts : List ℕ) (j : ℕ) → j < length ts → get_or ts j 0 ≡ t → list_any (nat_eq t) ts ≡ true
at-any t [] j h is = absurd (omega (arith, h))
at-any t (a ∷ ts) zero h is = or_left (nat_eq t a) (list_any (nat_eq t) ts) (eq-eqb t a (sym is))
at-any t (a ∷ ts) (suc j) h is = or_right (nat_eq t a) (list_any (nat_eq t) ts) (at-any t ts j (omega (arith, h)) is)

-- ---- how far a list has come

-- the long commits between two timestamps, up to an index, are in the list
pub record Added (r : Record) (above below : ℕ) (gaps : List Gap) (last k : ℕ) : Type 0 where
  pub has : HasUpTo r last gaps
  pub low : above ≤ last
  pub high : last < below
  pub done : (j : ℕ) → j < k → get_or r.longs j 0 < below → get_or r.longs j 0 ≤ last

-- the record's own gaps up to an index are, and the long commits before them
pub record Joined (r : Record) (gaps : List Gap) (last i : ℕ) : Type 0 where
  pub has : HasUpTo r last gaps
  pub at : last ≡ end_of 0 r.gaps i

-- ---- what opening goes on with

module _ (r : Record) (may : MayRule r) where
  abbrev lies : ℕ → Bool
  lies t = is_in (opened_gaps r) t

  opens : IsOpenedGaps r (opened_gaps r)
  opens = opened-gaps may.0 r may.1

  pub bounds : (r.persisted < r.dirty) × (r.dirty < 18446744073709551615)
  bounds = let parts = well_formed-parts may.0 r may.1 in (parts.below, omega (arith, parts.limit))

  pub own-list : is_gap_list r.gaps ≡ true
  own-list = well_formed-tidy may.0 r may.1

  opened-tidy : Tidy 0 (opened_gaps r)
  opened-tidy = tidy-all (opened_gaps r) opens.ordered opens.apart

  pub own-lies-in : (t : ℕ) → is_in r.gaps t ≡ true → lies t ≡ true
  own-lies-in t is = opens.same t ∙ or_left _ (nat_lt r.persisted t && nat_lt t r.dirty) (or_left (is_in r.gaps t) (list_any (nat_eq t) r.longs) is)

  pub skipped-lies : (t : ℕ) → is_in r.gaps t ≡ false → list_any (nat_eq t) r.longs ≡ false → (nat_lt r.persisted t && nat_lt t r.dirty) ≡ lies t
  skipped-lies t own long = sym (opens.same t ∙ (λ i. own i || long i || (nat_lt r.persisted t && nat_lt t r.dirty)))

  pub long-lies : (t : ℕ) → list_any (nat_eq t) r.longs ≡ true → lies t ≡ true
  long-lies t is = opens.same t ∙ or_left _ (nat_lt r.persisted t && nat_lt t r.dirty) (or_right (is_in r.gaps t) (list_any (nat_eq t) r.longs) is)

  -- ---- one piece more

  module _ (gaps : List Gap) (last : ℕ) (piece : Gap) (has : HasUpTo r last gaps) (some : piece.first ≤ piece.last) (above : last < piece.first)
      (none : (t : ℕ) → last < t → t < piece.first → lies t ≡ true → ⊥) (all : (t : ℕ) → piece.first ≤ t → t ≤ piece.last → lies t ≡ true) where
    joined : (t : ℕ) → (is_in gaps t || is_between piece t) ≡ (lies t && nat_le t piece.last)
    joined t = both_ways (is_in gaps t || is_between piece t) (lies t && nat_le t piece.last)
        (λ e. elim (or_cases (is_in gaps t) (is_between piece t) e) [
          | inl old ↦ (let both = and_parts (lies t) (nat_le t last) (sym (has.same t) ∙ old) in and_from (lies t) (nat_le t piece.last) both.0 (le-leb t piece.last (omega (arith, some, above, leb-true t last both.1))))
          | inr here ↦ (let both = and_parts (nat_le piece.first t) (nat_le t piece.last) here in and_from (lies t) (nat_le t piece.last) (all t (leb-true piece.first t both.0) (leb-true t piece.last both.1)) both.1)
        ])
        (λ e. let both = and_parts (lies t) (nat_le t piece.last) e in by both.0 (leb-true t piece.last both.1) (cases_lt last t) (cases_lt t piece.first))
      where
        by : lies t ≡ true → t ≤ piece.last → (last < t) ⊎ (t ≤ last) → (t < piece.first) ⊎ (piece.first ≤ t) → (is_in gaps t || is_between piece t) ≡ true
        by lay high (inr low) other = or_left (is_in gaps t) (is_between piece t) (has.same t ∙ and_from (lies t) (nat_le t last) lay (le-leb t last low))
        by lay high (inl up) (inl down) = absurd (none t up down lay)
        by lay high (inl up) (inr from) = or_right (is_in gaps t) (is_between piece t) (and_from (nat_le piece.first t) (nat_le t piece.last) (le-leb piece.first t from) (le-leb t piece.last high))

    up : are_up gaps ≡ true
    up = gap_list-up gaps has.list

    made-same : (t : ℕ) → is_in (with_gap piece gaps) t ≡ (lies t && nat_le t piece.last)
    made-same t = is_in-with_gap piece gaps t some up ∙ joined t

    pub has-more : (new : List Gap) → new ≡ with_gap piece gaps → length (with_gap piece gaps) ≤ 8 → HasUpTo r piece.last new
    has-more new is few = record {
      list = subst (λ (l : List Gap). is_gap_list l ≡ true) (sym is) (with_gap-tidy piece gaps (omega (arith, above)) some has.list few);
      same = λ t. ap (λ (l : List Gap). is_in l t) is ∙ made-same t;
    }

    -- a list that has one gap too many stays too long
    pub too-many : (length (with_gap piece gaps) ≤ 8 → ⊥) → 8 < length (opened_gaps r)
    too-many full =
        let made = with_gap piece gaps in
        let apart : are_apart gaps ≡ true = (and_parts _ _ (and_parts _ _ has.list).0).1 in
        let least : length made ≤ length (opened_gaps r) = fewer 0 piece.last made (opened_gaps r) (tidy-all made (with_gap-up piece gaps some up) (with_gap-are_apart piece gaps some up apart)) opened-tidy
        (λ t i. leb-true t piece.last (and_parts (lies t) (nat_le t piece.last) (sym (made-same t) ∙ in-test made t i)).1)
        (λ t i. in-from (opened_gaps r) t (and_parts (lies t) (nat_le t piece.last) (sym (made-same t) ∙ in-test made t i)).0)
        (λ t h i. in-from made t (made-same t ∙ and_from (lies t) (nat_le t piece.last) (in-test (opened_gaps r) t i) (le-leb t piece.last h))) in
        by (length made) least full (cases_lt 8 (length made))
      where
        by : (n : ℕ) → n ≤ length (opened_gaps r) → (n ≤ 8 → ⊥) → (8 < n) ⊎ (n ≤ 8) → 8 < length (opened_gaps r)
        by n least full (inl many) = omega (arith, many, least)
        by n least full (inr few) = absurd (full few)

  -- ---- the long commits between two timestamps

  module _ (above below : ℕ) (between : HasLongsBetween r above below) where
    none-long : (gaps : List Gap) (last k : ℕ) → Added r above below gaps last k → k < length r.longs → get_or r.longs k 0 < below → (t : ℕ) → last < t → t < get_or r.longs k 0 → lies t ≡ true → ⊥
    none-long gaps last k added h under t up down lay =
        let found = any-at t r.longs (sym (between t (omega (arith, added.low, up)) (omega (arith, down, under))) ∙ lay) in
        let rises = (well_formed-parts may.0 r may.1).rising in
        elim (cases_lt found.0 k) [
          | inl before ↦ omega (arith, found.2, up, down, under, added.done found.0 before (omega (arith, found.2, down, under)))
          | inr from ↦ elim (cases_lt k found.0) [
            | inl after ↦ omega (arith, found.2, down, rising-at r.longs k found.0 rises after found.1)
            | inr same ↦ (let is : found.0 ≡ k = omega (arith, from, same) in omega (arith, down, sym found.2 ∙ ap (λ (j : ℕ). get_or r.longs j 0) is))
          ]
        ]

    pub all-added : (gaps : List Gap) (last : ℕ) → Added r above below gaps last (length r.longs) → HasUpTo r (below - 1) gaps
    all-added gaps last added = record {
      list = added.has.list;
      same = λ t. added.has.same t ∙ both_ways (lies t && nat_le t last) (lies t && nat_le t (below - 1))
          (λ e. let both = and_parts (lies t) (nat_le t last) e in and_from (lies t) (nat_le t (below - 1)) both.0 (le-leb t (below - 1) (omega (arith, leb-true t last both.1, added.high))))
          (λ e. let both = and_parts (lies t) (nat_le t (below - 1)) e in and_from (lies t) (nat_le t last) both.0 (le-leb t last (by t both.0 (leb-true t (below - 1) both.1) (cases_lt last t))));
    }
      where
        by : (t : ℕ) → lies t ≡ true → t ≤ below - 1 → (last < t) ⊎ (t ≤ last) → t ≤ last
        by t lay high (inr low) = low
        by t lay high (inl up) = grind (arith, any-at)

    module _ (gaps : List Gap) (last k : ℕ) (added : Added r above below gaps last k) (h : k < length r.longs) (here : ℕ) (at : here ≡ get_or r.longs k 0) where
      abbrev point : ℕ → Gap
      point t = record { first = t; last = t }

      here-lies : (t : ℕ) → here ≤ t → t ≤ here → lies t ≡ true
      here-lies t low high = long-lies t (at-any t r.longs k h (omega (arith, at, low, high)))

      no-other : here < below → (t : ℕ) → last < t → t < here → lies t ≡ true → ⊥
      no-other under t up down lay = none-long gaps last k added h (omega (arith, at, under)) t up (omega (arith, at, down)) lay

      pub long-added : last < here → here < below → (new : List Gap) → new ≡ with_gap (point here) gaps → length (with_gap (point here) gaps) ≤ 8 → Added r above below new here (k + 1)
      long-added up under new is few = record {
        has = has-more gaps last (point here) added.has (omega arith) up (no-other under) here-lies new is few;
        low = omega (arith, added.low, up);
        high = under;
        done = λ j lt down. elim (cases_lt j k) [
          | inl before ↦ omega (arith, added.done j before down, up)
          | inr from ↦ (let is : j ≡ k = omega (arith, from, lt) in omega (arith, at, ap (λ (i : ℕ). get_or r.longs i 0) is))
        ];
      }

      pub long-full : last < here → here < below → (length (with_gap (point here) gaps) ≤ 8 → ⊥) → 8 < length (opened_gaps r)
      long-full up under full = too-many gaps last (point here) added.has (omega arith) up (no-other under) here-lies full

      pub long-passed : (last < here → here < below → ⊥) → Added r above below gaps last (k + 1)
      long-passed not_between = grind (arith, cases_lt, up) steps 800000

  -- ---- the record's own gaps

  own-tidy : Tidy (0 + 1) r.gaps
  own-tidy = tidy-list r.gaps own-list

  own-under : (i : ℕ) → i < length r.gaps → (1 ≤ (get_or r.gaps i no_gap).first) × ((get_or r.gaps i no_gap).first ≤ (get_or r.gaps i no_gap).last) × ((get_or r.gaps i no_gap).last ≤ r.persisted)
  own-under i h = grind (arith, and_parts, all-at, well_formed-parts, leb-true) steps 800000

  long-under : (t : ℕ) → list_any (nat_eq t) r.longs ≡ true → (1 ≤ t) × (t ≤ r.persisted)
  long-under t is = by r.longs (well_formed-parts may.0 r may.1).within is
    where
      test : ℕ → Bool
      test u = nat_le 1 u && nat_le u r.persisted && not (is_in r.gaps u)

      by : (ts : List ℕ) → list_all test ts ≡ true → list_any (nat_eq t) ts ≡ true → (1 ≤ t) × (t ≤ r.persisted)
      by [] all is = absurd (cc is)
      by (u ∷ ts) all is =
          let parts = and_parts (test u) (list_all test ts) all in
          elim (or_cases (nat_eq t u) (list_any (nat_eq t) ts) is) [
            | inl same ↦ (let both = and_parts (nat_le 1 u) (nat_le u r.persisted) (and_parts (nat_le 1 u && nat_le u r.persisted) (not (is_in r.gaps u)) parts.0).0 in
                let e = eqb-true t u same in (omega (arith, e, leb-true 1 u both.0), omega (arith, e, leb-true u r.persisted both.1)))
            | inr more ↦ by ts parts.1 more
          ]

  pub none-joined : Joined r [] 0 0
  none-joined = record { has = record { list = refl; same = λ t. both_ways false (lies t && nat_le t 0) (λ e. absurd (cc e)) (λ e. let both = and_parts (lies t) (nat_le t 0) e in absurd (none t both.0 (leb-true t 0 both.1))) }; at = refl }
    where
      none : (t : ℕ) → lies t ≡ true → t ≤ 0 → ⊥
      none t lay low = elim (or_cases (is_in r.gaps t || list_any (nat_eq t) r.longs) (nat_lt r.persisted t && nat_lt t r.dirty) (sym (opens.same t) ∙ lay)) [
        | inl old ↦ elim (or_cases (is_in r.gaps t) (list_any (nat_eq t) r.longs) old) [
          | inl own ↦ omega (arith, low, in-low 1 r.gaps t own-tidy (in-from r.gaps t own))
          | inr long ↦ omega (arith, low, (long-under t long).0)
        ]
        | inr skip ↦ omega (arith, low, ltb-true r.persisted t (and_parts (nat_lt r.persisted t) (nat_lt t r.dirty) skip).0)
      ]

  -- if there is no gap and no skipped timestamp in between, only long commits are in these gaps
  longs-between : (above below : ℕ) → below ≤ r.persisted + 1 → ((t : ℕ) → above < t → t < below → In r.gaps t → ⊥) → HasLongsBetween r above below
  longs-between above below low none t up down = both_ways (lies t) (list_any (nat_eq t) r.longs)
      (λ lay. elim (or_cases (is_in r.gaps t || list_any (nat_eq t) r.longs) (nat_lt r.persisted t && nat_lt t r.dirty) (sym (opens.same t) ∙ lay)) [
        | inl old ↦ elim (or_cases (is_in r.gaps t) (list_any (nat_eq t) r.longs) old) [ inl own ↦ absurd (none t up down (in-from r.gaps t own)) | inr long ↦ long ]
        | inr skip ↦ absurd (omega (arith, low, down, ltb-true r.persisted t (and_parts (nat_lt r.persisted t) (nat_lt t r.dirty) skip).0))
      ])
      (long-lies t)

  module _ (gaps : List Gap) (last i : ℕ) (joined_to : Joined r gaps last i) where
    module _ (h : i < length r.gaps) where
      abbrev own : Gap
      own = get_or r.gaps i no_gap

      pub own-above : last < own.first
      own-above = omega (arith, joined_to.at, end-below 0 r.gaps i own-tidy h)

      pub own-between : HasLongsBetween r last own.first
      own-between = longs-between last own.first (omega (arith, (own-under i h).1, (own-under i h).2)) (λ t up down. none-at 0 r.gaps i t own-tidy (omega (arith, up, joined_to.at)) (λ lt. down) (omega (arith, h)))

      pub own-goes : (1 ≤ own.first) × (own.first ≤ own.last)
      own-goes = ((own-under i h).0, (own-under i h).1)

      own-lies : (t : ℕ) → own.first ≤ t → t ≤ own.last → lies t ≡ true
      own-lies t low high =
          own-lies-in t (in-test r.gaps t (in-at r.gaps i t h (low, high)))

      module _ (mid : List Gap) (has : HasUpTo r (own.first - 1) mid) where
        nothing : (t : ℕ) → own.first - 1 < t → t < own.first → lies t ≡ true → ⊥
        nothing t up down lay = omega (arith, up, down)

        pub own-joined : (new : List Gap) → new ≡ with_gap own mid → length (with_gap own mid) ≤ 8 → Joined r new own.last (i + 1)
        own-joined new is few = record {
          has = has-more mid (own.first - 1) own has own-goes.1 (omega (arith, own-goes.0)) nothing own-lies new is few;
          at = end-step 0 r.gaps i h;
        }

        pub own-full : (length (with_gap own mid) ≤ 8 → ⊥) → 8 < length (opened_gaps r)
        own-full full = too-many mid (own.first - 1) own has own-goes.1 (omega (arith, own-goes.0)) nothing own-lies full

    module _ (all : i ≡ length r.gaps) where
      pub all-above : last < r.persisted + 1
      all-above = omega (arith, joined_to.at, ends r.gaps 0 i (well_formed-parts may.0 r may.1).each (omega arith))
        where
          ends : (gs : List Gap) (e j : ℕ) → list_all (λ g. nat_le 1 g.first && nat_le g.first g.last && nat_le g.last r.persisted) gs ≡ true → e ≤ r.persisted → end_of e gs j ≤ r.persisted
          ends gs e zero each le = le
          ends [] e (suc j) each le = le
          ends (g ∷ gs) e (suc j) each le = let parts = and_parts _ _ each in ends gs g.last j parts.1 (leb-true g.last r.persisted (and_parts _ _ parts.0).1)

      pub all-between : HasLongsBetween r last (r.persisted + 1)
      all-between = longs-between last (r.persisted + 1) (omega arith) (λ t up down. none-at 0 r.gaps i t own-tidy (omega (arith, up, joined_to.at)) (λ lt. absurd (omega (arith, lt, all))) (omega (arith, all)))

  -- ---- the timestamps that opening skips

  lies-below : (t : ℕ) → lies t ≡ true → t ≤ r.dirty - 1
  lies-below t lay =
      let order = bounds.0 in
      elim (or_cases (is_in r.gaps t || list_any (nat_eq t) r.longs) (nat_lt r.persisted t && nat_lt t r.dirty) (sym (opens.same t) ∙ lay)) [
        | inl old ↦ elim (or_cases (is_in r.gaps t) (list_any (nat_eq t) r.longs) old) [
          | inl own ↦ omega (arith, order, in-under r.gaps (well_formed-parts may.0 r may.1).each (in-from r.gaps t own))
          | inr long ↦ omega (arith, order, (long-under t long).1)
        ]
        | inr skip ↦ omega (arith, ltb-true t r.dirty (and_parts (nat_lt r.persisted t) (nat_lt t r.dirty) skip).1)
      ]
    where
      in-under : (gs : List Gap) → list_all (λ g. nat_le 1 g.first && nat_le g.first g.last && nat_le g.last r.persisted) gs ≡ true → In gs t → t ≤ r.persisted
      in-under [] each is = absurd is
      in-under (g ∷ gs) each (inl w) = omega (arith, w.1, leb-true g.last r.persisted (and_parts _ _ (and_parts _ _ each).0).1)
      in-under (g ∷ gs) each (inr more) = in-under gs (and_parts _ _ each).1 more

  whole : (gaps : List Gap) (last : ℕ) → HasUpTo r last gaps → r.dirty - 1 ≤ last → gaps ≡ opened_gaps r
  whole gaps last has le =
      one_gap_list r gaps (opened_gaps r) (record {
        ordered = gap_list-up gaps has.list;
        apart = (and_parts _ _ (and_parts _ _ has.list).0).1;
        same = λ t. has.same t ∙ both_ways (lies t && nat_le t last) (lies t) (λ e. (and_parts (lies t) (nat_le t last) e).0) (λ e. and_from (lies t) (nat_le t last) e (le-leb t last (omega (arith, le, lies-below t e)))) ∙ opens.same t;
      }) opens

  module _ (gaps : List Gap) (has : HasUpTo r r.persisted gaps) where
    skip-lies : (t : ℕ) → r.persisted + 1 ≤ t → t ≤ r.dirty - 1 → lies t ≡ true
    skip-lies t low high =
        let order = bounds.0 in
        opens.same t ∙ or_right (is_in r.gaps t || list_any (nat_eq t) r.longs) (nat_lt r.persisted t && nat_lt t r.dirty)
        (and_from (nat_lt r.persisted t) (nat_lt t r.dirty) (lt-ltb r.persisted t (omega (arith, low))) (lt-ltb t r.dirty (omega (arith, high, order))))

    module _ (first last : ℕ) (first-is : first ≡ r.persisted + 1) (last-is : last ≡ r.dirty - 1) where
      abbrev skipped : Gap
      skipped = record { first = first; last = last }

      lies-skipped : (t : ℕ) → first ≤ t → t ≤ last → lies t ≡ true
      lies-skipped t low high = skip-lies t (omega (arith, first-is, low)) (omega (arith, last-is, high))

      none-before : (t : ℕ) → r.persisted < t → t < first → lies t ≡ true → ⊥
      none-before t up down lay = omega (arith, first-is, up, down)

      pub skip-added : first ≤ last → (new : List Gap) → new ≡ with_gap skipped gaps → length (with_gap skipped gaps) ≤ 8 → new ≡ opened_gaps r
      skip-added some new is few = whole new last (has-more gaps r.persisted skipped has some (omega (arith, first-is)) none-before lies-skipped new is few) (omega (arith, last-is))

      pub skip-full : first ≤ last → (length (with_gap skipped gaps) ≤ 8 → ⊥) → 8 < length (opened_gaps r)
      skip-full some full = too-many gaps r.persisted skipped has some (omega (arith, first-is)) none-before lies-skipped full

      pub none-skipped : last < first → gaps ≡ opened_gaps r
      none-skipped none = whole gaps r.persisted has (omega (arith, none, first-is, last-is))
