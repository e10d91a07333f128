-- A batch of any number of commits is chosen.
use Rattle.std.proofs.Common.{◌||◌, ◌≡◌, ◌≢◌, ◌⊎◌, inl, inr, ℕ, suc, ◌+◌, ◌<◌, ◌≤◌, Bool, true, false, cond, not, ◌&&◌, List, [], ◌∷◌, map, filter, fold, length, refl, sym, ◌∙◌, ap, arith, Option, Some, None, find, true≢false}
use Rattle.std.specs.Prelude.{nat_eq, nat_lt, nat_le, max, unwrap_or}
use Rattle.std.specs.List.{list_any, list_all}
use Rattle.std.specs.Option.{option_map}
use Rattle.std.proofs.lemmas.Bool.{cases_eq, cases_lt, eq-eqb, eqb-true, and_parts, and_from, ltb-true, lt-ltb, leb-true, le-leb, or_cases, or_left, or_right, false_from_ne_true, not-true}
use Rattle.std.proofs.lemmas.Bool.Decides.{nat_tests}
use Rattle.base.specs.Commits.{Commit}
use Rattle.base.specs.Layout.{most_longs}
use Rattle.base.specs.declared.gap.Gap.{Gap}
use Rattle.base.specs.Records.{Record, is_committed, is_in, is_well_formed, are_rising}
use Rattle.base.specs.Stands.{has_timestamp}
use Rattle.machine.specs.Machine.{State, Drawn, drawn_at, drawn_of, is_stamped, may_be_covered, unstamped_below, is_chosen, is_passed, chosen, reach, passed_over, standing_gaps, target_of, taken_in_hand}
use Rattle.state_invariant.specs.Kept.{Origin, KeepsHand, Keeps, commit_at, commits_of_life, covered_since}
use Rattle.state_invariant.proofs.Lookups.{find-all}
use Rattle.state_invariant.proofs.Lists.{all-map, find-map, rising-above, rising-filter}
use Rattle.state_invariant.proofs.Commits.{commit_at-has, commit_at-some, commit_at-append, commit_at-drawn, drawn_at-timestamp, all-by_timestamp, timestamp-all}
use Rattle.base.proofs.WellFormed.{well_formed-parts}
use Rattle.base.proofs.Lists.{all-drop, any-map, find-passes, rising-rest}
use Rattle.base.proofs.Layouts.{has_window}
use Rattle.state_invariant.proofs.Records.{well_formed-further, well_formed-dropped}
use Rattle.state_invariant.proofs.covers.Kept.{no_gap-above}

-- ---- the greatest of a list

pub max-least : (p : ℕ) (ts : List ℕ) → p ≤ fold max p ts
max-least p [] = omega arith
max-least p (t ∷ ts) = omega (arith, max-least (max p t) ts)

pub max-has : (p t : ℕ) (ts : List ℕ) → list_any (nat_le t) ts ≡ true → t ≤ fold max p ts
max-has p t [] any = absurd (cc any)
max-has p t (u ∷ ts) any = grind (arith, max-least, max-has (max p u) t ts)

-- ---- rising lists of drawn commits

abbrev time_of : Drawn → ℕ
time_of d = d.commit.timestamp

pub above-each : (x : Drawn) (ds : List Drawn) (u : ℕ) (d : Drawn) → are_rising (map time_of (x ∷ ds)) ≡ true → find (λ (d : Drawn). nat_eq d.commit.timestamp u) ds ≡ Some d → (time_of x < u) × (time_of d ≡ u)
above-each x ds u d rising found =
    let is : time_of d ≡ u = eqb-true (time_of d) u (find-passes (λ (d : Drawn). nat_eq d.commit.timestamp u) ds d found) in
    let more = ltb-true (time_of x) (time_of d) (find-all (λ (d : Drawn). nat_eq d.commit.timestamp u) (λ d. nat_lt (time_of x) (time_of d)) ds d (unmapped ds (rising-above (time_of x) (map time_of ds) rising)) found) in
    (omega (arith, is, more), is)
  where
    unmapped : (es : List Drawn) → list_all (nat_lt (time_of x)) (map time_of es) ≡ true → list_all (λ d. nat_lt (time_of x) (time_of d)) es ≡ true
    unmapped [] all = refl
    unmapped (e ∷ es) all = let both = and_parts (nat_lt (time_of x) (time_of e)) (list_all (nat_lt (time_of x)) (map time_of es)) all in and_from (nat_lt (time_of x) (time_of e)) (list_all (λ d. nat_lt (time_of x) (time_of d)) es) both.0 (unmapped es both.1)

-- what is found among the rest is found in the whole
pub found-later : (x : Drawn) (ds : List Drawn) (u : ℕ) (d : Drawn) → are_rising (map time_of (x ∷ ds)) ≡ true → find (λ (d : Drawn). nat_eq d.commit.timestamp u) ds ≡ Some d → find (λ (d : Drawn). nat_eq d.commit.timestamp u) (x ∷ ds) ≡ Some d
found-later x ds u d rising found = grind (arith, above-each)

-- some that passes is found by its timestamp
pub any-by_timestamp : (r : Drawn → Bool) (ds : List Drawn) → are_rising (map time_of ds) ≡ true → list_any r ds ≡ true → (d : Drawn) × (find (λ (e : Drawn). nat_eq e.commit.timestamp (time_of d)) ds ≡ Some d) × (r d ≡ true)
any-by_timestamp r [] rising any = absurd (cc any)
any-by_timestamp r (x ∷ ds) rising any =
    elim (or_cases (r x) (list_any r ds) any) [
      | inl here ↦ (x, ap (λ (b : Bool). cond b (Some x) (find (λ (e : Drawn). nat_eq e.commit.timestamp (time_of x)) ds)) (eq-eqb (time_of x) (time_of x) refl), here)
      | inr later ↦ (let found = any-by_timestamp r ds (rising-rest (time_of x) (map time_of ds) rising) later in (found.0, found-later x ds (time_of found.0) found.0 rising found.1, found.2))
    ]

-- what each that is found has, all have
pub all-by_found : (p : Drawn → Bool) (ds : List Drawn) → are_rising (map time_of ds) ≡ true → ((d : Drawn) → find (λ (e : Drawn). nat_eq e.commit.timestamp (time_of d)) ds ≡ Some d → p d ≡ true) → list_all p ds ≡ true
all-by_found p [] rising each = refl
all-by_found p (x ∷ ds) rising each =
    and_from (p x) (list_all p ds)
    (each x (ap (λ (b : Bool). cond b (Some x) (find (λ (e : Drawn). nat_eq e.commit.timestamp (time_of x)) ds)) (eq-eqb (time_of x) (time_of x) refl)))
    (all-by_found p ds (rising-rest (time_of x) (map time_of ds) rising) (λ d found. each d (found-later x ds (time_of d) d rising found)))

-- what a filter finds was found
found-unfiltered : (f : Drawn → Bool) (ds : List Drawn) (u : ℕ) (d : Drawn) → are_rising (map time_of ds) ≡ true → find (λ (e : Drawn). nat_eq e.commit.timestamp u) (filter f ds) ≡ Some d
    → (find (λ (e : Drawn). nat_eq e.commit.timestamp u) ds ≡ Some d) × (f d ≡ true)
found-unfiltered f [] u d rising found = absurd (cc found)
found-unfiltered f (x ∷ ds) u d rising found = grind (arith, found-unfiltered f ds u d (rising-rest (time_of x) (map time_of ds) rising), rising-rest, found-later)

-- a filter keeps what passes it
kept-by_filter : (f : Drawn → Bool) (ds : List Drawn) (u : ℕ) (d : Drawn) → find (λ (e : Drawn). nat_eq e.commit.timestamp u) ds ≡ Some d → f d ≡ true → list_any (λ e. nat_eq e.commit.timestamp u) (filter f ds) ≡ true
kept-by_filter f [] u d found passes = absurd (cc found)
kept-by_filter f (x ∷ ds) u d found passes = grind (arith, kept-by_filter f ds u d)

filter-none : {X : Type 0} (p : X → Bool) (xs : List X) → list_all (λ x. not (p x)) xs ≡ true → filter p xs ≡ []
filter-none p [] all = refl
filter-none p (x ∷ xs) all = by (p x) (and_parts (not (p x)) (list_all (λ x. not (p x)) xs) all).0 (filter-none p xs (and_parts (not (p x)) (list_all (λ x. not (p x)) xs) all).1)
  where
    by : (b : Bool) → not b ≡ true → filter p xs ≡ [] → cond b (x ∷ filter p xs) (filter p xs) ≡ []
    by true e rest = cc e
    by false e rest = rest

any-unfiltered : (p r : Drawn → Bool) (ds : List Drawn) → list_any r (filter p ds) ≡ true → list_any (λ d. p d && r d) ds ≡ true
any-unfiltered p r [] any = absurd (cc any)
any-unfiltered p r (d ∷ ds) any = grind (arith, any-unfiltered p r ds, or_cases, or_left, or_right)

-- ---- records

-- what a record commits is at most what it persists, in no gap, and not a long commit
pub committed-parts : (r : Record) (t : ℕ) → is_committed r t ≡ true → (1 ≤ t) × (t ≤ r.persisted) × (is_in r.gaps t ≡ false) × (list_any (nat_eq t) r.longs ≡ false)
committed-parts r t e = grind (arith, and_parts, leb-true, not-true)

-- and the other way round
pub committed-from : (r : Record) (t : ℕ) → 1 ≤ t → t ≤ r.persisted → is_in r.gaps t ≡ false → list_any (nat_eq t) r.longs ≡ false → is_committed r t ≡ true
committed-from r t from to out short = grind (arith, and_from, le-leb)

-- a record that doesn't commit what it persists and has in no gap, names it as a long commit
pub uncommitted-long : (r : Record) (t : ℕ) → 1 ≤ t → t ≤ r.persisted → is_in r.gaps t ≡ false → is_committed r t ≡ false → list_any (nat_eq t) r.longs ≡ true
uncommitted-long r t from to out uncounted = grind (arith, true≢false, committed-from)

-- ---- how many

-- if rising numbers are all among others that rise, there are at most as many of them
pub rising-among : (xs ys : List ℕ) → are_rising xs ≡ true → are_rising ys ≡ true → list_all (λ x. list_any (nat_eq x) ys) xs ≡ true → length xs ≤ length ys
rising-among [] ys up high all = omega arith
rising-among (x ∷ xs) [] up high all = absurd (cc (and_parts false (list_all (λ x. false) xs) all).0)
rising-among (x ∷ xs) (y ∷ ys) up high all = by (λ zs rises among. rising-among zs ys rises (rising-rest y ys high) among) (nat_eq x y) refl
  where
    parts : ((nat_eq x y || list_any (nat_eq x) ys) ≡ true) × (list_all (λ x. nat_eq x y || list_any (nat_eq x) ys) xs ≡ true)
    parts = and_parts (nat_eq x y || list_any (nat_eq x) ys) (list_all (λ x. nat_eq x y || list_any (nat_eq x) ys) xs) all

    -- what is above y is in the rest
    later : (zs : List ℕ) → list_all (nat_lt y) zs ≡ true → list_all (λ z. nat_eq z y || list_any (nat_eq z) ys) zs ≡ true → list_all (λ z. list_any (nat_eq z) ys) zs ≡ true
    later [] above among = refl
    later (z ∷ zs) above among =
        let a = and_parts (nat_lt y z) (list_all (nat_lt y) zs) above in
        let b = and_parts (nat_eq z y || list_any (nat_eq z) ys) (list_all (λ z. nat_eq z y || list_any (nat_eq z) ys) zs) among in
        let less : y < z = ltb-true y z a.0 in
        and_from (list_any (nat_eq z) ys) (list_all (λ z. list_any (nat_eq z) ys) zs)
        (elim (or_cases (nat_eq z y) (list_any (nat_eq z) ys) b.0) [
          | inl same ↦ absurd (omega (arith, less, eqb-true z y same))
          | inr there ↦ there
        ])
        (later zs a.1 b.1)

    higher : (bound : ℕ) (zs : List ℕ) → bound ≤ x → list_all (nat_lt x) zs ≡ true → list_all (nat_lt bound) zs ≡ true
    higher bound [] le all = refl
    higher bound (z ∷ zs) le all =
        let both = and_parts (nat_lt x z) (list_all (nat_lt x) zs) all in
        and_from (nat_lt bound z) (list_all (nat_lt bound) zs) (lt-ltb bound z (omega (arith, le, ltb-true x z both.0))) (higher bound zs le both.1)

    member-above : (zs : List ℕ) → list_all (nat_lt y) zs ≡ true → list_any (nat_eq x) zs ≡ true → y < x
    member-above [] above any = absurd (cc any)
    member-above (z ∷ zs) above any =
        let both = and_parts (nat_lt y z) (list_all (nat_lt y) zs) above in
        elim (or_cases (nat_eq x z) (list_any (nat_eq x) zs) any) [
          | inl same ↦ omega (arith, ltb-true y z both.0, eqb-true x z same)
          | inr rest ↦ member-above zs both.1 rest
        ]

    by : ((zs : List ℕ) → are_rising zs ≡ true → list_all (λ z. list_any (nat_eq z) ys) zs ≡ true → length zs ≤ length ys) → (b : Bool) → nat_eq x y ≡ b → length (x ∷ xs) ≤ length (y ∷ ys)
    by rest true is = grind (arith, eqb-true, rising-rest, later, rising-above)
    by rest false is =
        let there : list_any (nat_eq x) ys ≡ true = sym (ap (λ (b : Bool). b || list_any (nat_eq x) ys) is) ∙ parts.0 in
        let less : y < x = member-above ys (rising-above y ys high) there in
        let le : length (x ∷ xs) ≤ length ys =
        rest (x ∷ xs) up (and_from (list_any (nat_eq x) ys) (list_all (λ z. list_any (nat_eq z) ys) xs) there (later xs (higher y xs (omega (arith, less)) (rising-above x xs up)) parts.1)) in
        omega (arith, le)

-- a filter has as many as are counted
pub length-filtered : (p : Drawn → Bool) (n : ℕ) (ds : List Drawn) → fold (λ (n : ℕ) (d : Drawn). n + cond (p d) 1 0) n ds ≡ n + length (filter p ds)
length-filtered p n [] = omega arith
length-filtered p n (d ∷ ds) = grind (arith, length-filtered p (n + cond (p d) 1 0) ds)

-- if what passes p passes r, no more pass p than r
pub fewer-filtered : (p r : Drawn → Bool) (ds : List Drawn) → list_all (λ d. not (p d) || r d) ds ≡ true → length (filter p ds) ≤ length (filter r ds)
fewer-filtered p r [] all = omega arith
fewer-filtered p r (d ∷ ds) all = grind (arith, fewer-filtered p r ds)

-- the greatest is the first number or is in the list
pub max-is : (p : ℕ) (ts : List ℕ) → (fold max p ts ≡ p) ⊎ (list_any (nat_eq (fold max p ts)) ts ≡ true)
max-is p [] = inl refl
max-is p (t ∷ ts) = grind (arith, max-is (max p t) ts, cases_lt, or_right, or_left, eq-eqb)

-- ---- the batch

module _ (o : Origin) (q : State) (kept : Keeps o q) where
  pub rising : are_rising (map time_of q.drawn) ≡ true
  rising = kept.draws.rising

  times-of : (ds : List Drawn) → map (λ (c : Commit). c.timestamp) (map (λ (d : Drawn). d.commit) ds) ≡ map time_of ds
  times-of [] = refl
  times-of (d ∷ ds) = ap (λ (ts : List ℕ). time_of d ∷ ts) (times-of ds)

  drawn-fact : (p : Drawn → Bool) (t : ℕ) (d : Drawn) → list_all p q.drawn ≡ true → drawn_at q t ≡ Some d → p d ≡ true
  drawn-fact p t d all found = find-all (λ (d : Drawn). nat_eq d.commit.timestamp t) p q.drawn d all found

  -- what is drawn is above what the opening persisted, and below the next timestamp, and isn't committed
  pub bounds : (t : ℕ) (d : Drawn) → drawn_at q t ≡ Some d → (time_of d ≡ t) × (o.ruling.persisted < t) × (t < q.next) × (is_committed q.ruling t ≡ false)
  bounds t d found =
      let is : time_of d ≡ t = drawn_at-timestamp q t d found in
      let above : o.ruling.persisted < time_of d = ltb-true o.ruling.persisted (time_of d) (drawn-fact (λ d. nat_lt o.ruling.persisted d.commit.timestamp) t d kept.numbers.origin.drawn found) in
      let both = and_parts (not (is_committed q.ruling (time_of d))) (nat_lt (time_of d) q.next) (drawn-fact (λ d. not (is_committed q.ruling d.commit.timestamp) && nat_lt d.commit.timestamp q.next) t d kept.numbers.drawn found) in
      let less : time_of d < q.next = ltb-true (time_of d) q.next both.1 in
      (is, omega (arith, is, above), omega (arith, is, less), sym (ap (is_committed q.ruling) is) ∙ not-true (is_committed q.ruling (time_of d)) both.0)

  has-drawn : (t : ℕ) → has_timestamp (drawn_of q) t ≡ true → (d : Drawn) × (drawn_at q t ≡ Some d)
  has-drawn t has = grind (arith, commit_at-has, commit_at-drawn)

  drawn-has : (t : ℕ) (d : Drawn) → drawn_at q t ≡ Some d → has_timestamp (drawn_of q) t ≡ true
  drawn-has t d found = commit_at-some (drawn_of q) t d.commit (commit_at-drawn q t ∙ ap (λ (x : Option Drawn). option_map (λ (d : Drawn). d.commit) x) found)

  -- every commit drawn up to what is persisted is a long commit of the ruling record
  pub drawn-long : (t : ℕ) (d : Drawn) → drawn_at q t ≡ Some d → t ≤ q.ruling.persisted → list_any (nat_eq t) q.ruling.longs ≡ true
  drawn-long t d found le = let b = bounds t d found in uncommitted-long q.ruling t (omega (arith, b.1)) le (no_gap-above o q t kept.numbers.origin b.1) b.3

  -- what is chosen is drawn, and stamped, and reached
  chosen-drawn : (t : ℕ) (c : Commit) → commit_at (chosen q) t ≡ Some c → (d : Drawn) × (drawn_at q t ≡ Some d) × (d.commit ≡ c) × (is_stamped d ≡ true) × (t ≤ reach q)
  chosen-drawn t c found = by (find (λ (d : Drawn). nat_eq d.commit.timestamp t) (filter (is_chosen q) q.drawn)) refl (sym (find-map (λ (c : Commit). nat_eq c.timestamp t) (λ (d : Drawn). d.commit) (filter (is_chosen q) q.drawn)) ∙ found)
    where
      by : (x : Option Drawn) → find (λ (d : Drawn). nat_eq d.commit.timestamp t) (filter (is_chosen q) q.drawn) ≡ x → option_map (λ (d : Drawn). d.commit) x ≡ Some c
          → (d : Drawn) × (drawn_at q t ≡ Some d) × (d.commit ≡ c) × (is_stamped d ≡ true) × (t ≤ reach q)
      by None is e = absurd (cc e)
      by (Some d) is e =
          let both = found-unfiltered (is_chosen q) q.drawn t d rising is in
          let parts = and_parts (is_stamped d) (nat_le (time_of d) (reach q)) both.1 in
          (d, both.0, ap (λ (x : Option Commit). unwrap_or x c) e, parts.0, omega (arith, leb-true (time_of d) (reach q) parts.1, drawn_at-timestamp q t d both.0))

  pub chosen-found : (t : ℕ) → has_timestamp (chosen q) t ≡ true → (d : Drawn) × (drawn_at q t ≡ Some d) × (is_stamped d ≡ true) × (t ≤ reach q)
  chosen-found t has = let c = commit_at-has (chosen q) t has in let d = chosen-drawn t c.0 c.1 in (d.0, d.1, d.3, d.4)

  -- what is passed over is drawn, not stamped, and reached
  passed-found : (t : ℕ) → list_any (nat_eq t) (passed_over q) ≡ true → (d : Drawn) × (drawn_at q t ≡ Some d) × (is_stamped d ≡ false) × (t ≤ reach q)
  passed-found t any =
      let some = any-unfiltered (is_passed q) (λ d. nat_eq t (time_of d)) q.drawn (sym (any-map (nat_eq t) time_of (filter (is_passed q) q.drawn)) ∙ any) in
      grind (arith, any-by_timestamp, rising, and_parts, eqb-true)

  -- what is drawn and reached is chosen if it is stamped, and passed over otherwise
  pub reached-chosen : (t : ℕ) (d : Drawn) → drawn_at q t ≡ Some d → t ≤ reach q → is_stamped d ≡ true → has_timestamp (chosen q) t ≡ true
  reached-chosen t d found le stamped =
      let is = drawn_at-timestamp q t d found in
      any-map (λ (c : Commit). nat_eq c.timestamp t) (λ (d : Drawn). d.commit) (filter (is_chosen q) q.drawn)
      ∙ kept-by_filter (is_chosen q) q.drawn t d found (and_from (is_stamped d) (nat_le (time_of d) (reach q)) stamped (le-leb (time_of d) (reach q) (omega (arith, is, le))))

  pub reached-passed : (t : ℕ) (d : Drawn) → drawn_at q t ≡ Some d → t ≤ reach q → is_stamped d ≡ false → list_any (nat_eq t) (passed_over q) ≡ true
  reached-passed t d found le unstamped =
      let is = drawn_at-timestamp q t d found in
      any-map (nat_eq t) time_of (filter (is_passed q) q.drawn)
      ∙ turned (filter (is_passed q) q.drawn)
      (kept-by_filter (is_passed q) q.drawn t d found (and_from (not (is_stamped d)) (nat_le (time_of d) (reach q)) (ap not unstamped) (le-leb (time_of d) (reach q) (omega (arith, is, le)))))
    where
      turned : (ds : List Drawn) → list_any (λ d. nat_eq (time_of d) t) ds ≡ true → list_any (λ d. nat_eq t (time_of d)) ds ≡ true
      turned [] any = any
      turned (d ∷ ds) any = elim (or_cases (nat_eq (time_of d) t) (list_any (λ d. nat_eq (time_of d) t) ds) any) [
        | inl here ↦ or_left (nat_eq t (time_of d)) (list_any (λ d. nat_eq t (time_of d)) ds) (eq-eqb t (time_of d) (sym (eqb-true (time_of d) t here)))
        | inr later ↦ or_right (nat_eq t (time_of d)) (list_any (λ d. nat_eq t (time_of d)) ds) (turned ds later)
      ]

  -- no commit is both
  apart : (t : ℕ) → has_timestamp (chosen q) t ≡ true → list_any (nat_eq t) (passed_over q) ≡ true → ⊥
  apart t has any = grind (arith, chosen-found, passed-found, true≢false)

  reach-persisted : q.ruling.persisted ≤ reach q
  reach-persisted = max-least q.ruling.persisted (map time_of (filter (may_be_covered q) q.drawn))

  -- the commit that is reached, if it isn't the one persisted now
  pub reach-is : (reach q ≡ q.ruling.persisted) ⊎ ((d : Drawn) × (drawn_at q (reach q) ≡ Some d) × (may_be_covered q d ≡ true))
  reach-is = elim (max-is q.ruling.persisted (map time_of (filter (may_be_covered q) q.drawn))) [
    | inl same ↦ inl same
    | inr any ↦ inr (by any)
  ]
    where
      by : list_any (nat_eq (reach q)) (map time_of (filter (may_be_covered q) q.drawn)) ≡ true → (d : Drawn) × (drawn_at q (reach q) ≡ Some d) × (may_be_covered q d ≡ true)
      by any =
          let some = any-unfiltered (may_be_covered q) (λ d. nat_eq (reach q) (time_of d)) q.drawn (sym (any-map (nat_eq (reach q)) time_of (filter (may_be_covered q) q.drawn)) ∙ any) in
          let found = any-by_timestamp (λ d. may_be_covered q d && nat_eq (reach q) (time_of d)) q.drawn rising some in
          let both = and_parts (may_be_covered q found.0) (nat_eq (reach q) (time_of found.0)) found.2 in
          (found.0, ap (drawn_at q) (eqb-true (reach q) (time_of found.0) both.1) ∙ found.1, both.0)

  reach-next : reach q < q.next
  reach-next = grind (arith, reach-is, bounds)

  -- ---- the long commits of the record

  passed-rising : are_rising (passed_over q) ≡ true
  passed-rising = rising-filter time_of (is_passed q) q.drawn rising

  passed-length : length (passed_over q) ≡ length (filter (is_passed q) q.drawn)
  passed-length = mapped (filter (is_passed q) q.drawn)
    where
      mapped : (ds : List Drawn) → length (map time_of ds) ≡ length ds
      mapped [] = refl
      mapped (d ∷ ds) = ap (λ (n : ℕ). suc n) (mapped ds)

  -- they are as few as a record may name
  pub passed-few : length (passed_over q) ≤ most_longs q.layout.version
  passed-few = elim reach-is [
    | inl same ↦ omega (arith, rising-among (passed_over q) q.ruling.longs passed-rising (well_formed-parts q.layout.version q.ruling kept.numbers.formed).rising (among same), (well_formed-parts q.layout.version q.ruling kept.numbers.formed).fewer)
    | inr some ↦ below some.0 some.1 some.2
  ]
    where
      among : reach q ≡ q.ruling.persisted → list_all (λ t. list_any (nat_eq t) q.ruling.longs) (passed_over q) ≡ true
      among same = all-map (λ t. list_any (nat_eq t) q.ruling.longs) time_of (filter (is_passed q) q.drawn) (each (filter (is_passed q) q.drawn) (λ t any. let f = passed-found t any in drawn-long t f.0 f.1 (omega (arith, f.3, same))) (λ t any. any-map (nat_eq t) time_of (filter (is_passed q) q.drawn) ∙ any))
        where
          each : (ds : List Drawn) → ((t : ℕ) → list_any (nat_eq t) (passed_over q) ≡ true → list_any (nat_eq t) q.ruling.longs ≡ true) → ((t : ℕ) → list_any (λ d. nat_eq t (time_of d)) ds ≡ true → list_any (nat_eq t) (passed_over q) ≡ true)
              → list_all (λ d. list_any (nat_eq (time_of d)) q.ruling.longs) ds ≡ true
          each [] long passed = refl
          each (d ∷ ds) long passed =
              and_from (list_any (nat_eq (time_of d)) q.ruling.longs) (list_all (λ d. list_any (nat_eq (time_of d)) q.ruling.longs) ds)
              (long (time_of d) (passed (time_of d) (or_left (nat_eq (time_of d) (time_of d)) (list_any (λ e. nat_eq (time_of d) (time_of e)) ds) (eq-eqb (time_of d) (time_of d) refl))))
              (each ds long (λ t any. passed t (or_right (nat_eq t (time_of d)) (list_any (λ d. nat_eq t (time_of d)) ds) any)))

      below : (d : Drawn) → drawn_at q (reach q) ≡ Some d → may_be_covered q d ≡ true → length (passed_over q) ≤ most_longs q.layout.version
      below d found may =
          let is : time_of d ≡ reach q = drawn_at-timestamp q (reach q) d found in
          let both = and_parts (is_stamped d) (nat_le (unstamped_below q (time_of d)) (most_longs q.layout.version)) may in
          let few = leb-true (unstamped_below q (time_of d)) (most_longs q.layout.version) both.1 in
          let count : unstamped_below q (time_of d) ≡ 0 + length (filter (λ e. nat_lt (time_of e) (time_of d) && not (is_stamped e)) q.drawn) = length-filtered (λ e. nat_lt (time_of e) (time_of d) && not (is_stamped e)) 0 q.drawn in
          let less = fewer-filtered (is_passed q) (λ e. nat_lt (time_of e) (time_of d) && not (is_stamped e)) q.drawn (all-by_found (λ e. not (is_passed q e) || (nat_lt (time_of e) (time_of d) && not (is_stamped e))) q.drawn rising (λ e there. either e there is both.0)) in
          omega (arith, passed-length, less, count, few)
        where
          tests : (s l m : Bool) → (s ≡ false → l ≡ true → m ≡ true) → (not (not s && l) || (m && not s)) ≡ true
          tests true l m e = refl
          tests false true m e = ap (λ (b : Bool). b && true) (e refl refl)
          tests false false m e = refl

          either : (e : Drawn) → drawn_at q (time_of e) ≡ Some e → time_of d ≡ reach q → is_stamped d ≡ true → (not (is_passed q e) || (nat_lt (time_of e) (time_of d) && not (is_stamped e))) ≡ true
          either e there is stamped = tests (is_stamped e) (nat_le (time_of e) (reach q)) (nat_lt (time_of e) (time_of d)) (λ un le. by un (leb-true (time_of e) (reach q) le) (cases_eq (time_of e) (time_of d)))
            where
              by : is_stamped e ≡ false → time_of e ≤ reach q → (time_of e ≡ time_of d) ⊎ (time_of e ≢ time_of d) → nat_lt (time_of e) (time_of d) ≡ true
              by un le (inl same) =
                  let one : Some e ≡ Some d = sym there ∙ ap (drawn_at q) (same ∙ is) ∙ found in
                  let eq : e ≡ d = cc one in
                  absurd (true≢false (sym stamped ∙ sym (ap is_stamped eq) ∙ un))
              by un le (inr other) = lt-ltb (time_of e) (time_of d) (omega (arith, le, other, is))

  -- ---- the record

  gaps-of : (b : Bool) → q.swept ≡ b → (cond b [] q.ruling.gaps ≡ q.ruling.gaps) ⊎ ((q.swept ≡ true) × (cond b [] q.ruling.gaps ≡ []))
  gaps-of a is = grind (arith)

  out-of_gaps : (t : ℕ) (b : Bool) → is_in q.ruling.gaps t ≡ false → is_in (cond b [] q.ruling.gaps) t ≡ false
  out-of_gaps t a out = grind (arith)

  has-window : 0 < q.layout.window
  has-window = has_window q.layout kept.numbers.layout

  -- a well formed record with long commits that are few, rise, and are at most what it persists and in no gap
  with-longs : (version gate persisted dirty : ℕ) (gaps : List Gap) (longs : List ℕ) → is_well_formed version (record { gate = gate; persisted = persisted; dirty = dirty; gaps = gaps; longs = [] }) ≡ true
      → length longs ≤ most_longs version → list_all (λ t. nat_le 1 t && nat_le t persisted && not (is_in gaps t)) longs ≡ true → are_rising longs ≡ true
      → is_well_formed version (record { gate = gate; persisted = persisted; dirty = dirty; gaps = gaps; longs = longs }) ≡ true
  with-longs version gate persisted dirty gaps longs formed few each up = grind (arith, well_formed-parts, nat_tests)

  formed-target : is_well_formed q.layout.version (target_of q) ≡ true
  formed-target = with-longs q.layout.version (q.ruling.gate + 1) (reach q) (q.next + q.layout.window) (standing_gaps q) (passed_over q) (by q.swept) passed-few (each passed-each) passed-rising
    where
      without : is_well_formed q.layout.version (record { gate = q.ruling.gate; persisted = q.ruling.persisted; dirty = q.ruling.dirty; gaps = []; longs = [] }) ≡ true
      without = well_formed-dropped q.layout.version q.ruling kept.numbers.formed

      by : (b : Bool) → is_well_formed q.layout.version (record { gate = q.ruling.gate + 1; persisted = reach q; dirty = q.next + q.layout.window; gaps = cond b [] q.ruling.gaps; longs = [] }) ≡ true
      by true = well_formed-further q.layout.version (record { gate = q.ruling.gate; persisted = q.ruling.persisted; dirty = q.ruling.dirty; gaps = []; longs = [] }) (q.ruling.gate + 1) (reach q) (q.next + q.layout.window)
          without reach-persisted (omega (arith, reach-next)) (omega (arith, kept.numbers.room, has-window))
      by false = well_formed-further q.layout.version q.ruling (q.ruling.gate + 1) (reach q) (q.next + q.layout.window) kept.numbers.formed reach-persisted (omega (arith, reach-next)) (omega (arith, kept.numbers.room, has-window))

      passed-each : (t : ℕ) → list_any (nat_eq t) (passed_over q) ≡ true → (nat_le 1 t && nat_le t (reach q) && not (is_in (standing_gaps q) t)) ≡ true
      passed-each t any =
          let f = passed-found t any in
          let b = bounds t f.0 f.1 in
          and_from (nat_le 1 t && nat_le t (reach q)) (not (is_in (standing_gaps q) t)) (and_from (nat_le 1 t) (nat_le t (reach q)) (le-leb 1 t (omega (arith, b.1))) (le-leb t (reach q) f.3))
          (ap not (out-of_gaps t q.swept (no_gap-above o q t kept.numbers.origin b.1)))

      among : (p : ℕ → Bool) (ts : List ℕ) → ((t : ℕ) → list_any (nat_eq t) ts ≡ true → p t ≡ true) → list_all p ts ≡ true
      among p [] has = refl
      among p (t ∷ ts) has = and_from (p t) (list_all p ts) (has t (or_left (nat_eq t t) (list_any (nat_eq t) ts) (eq-eqb t t refl))) (among p ts (λ u any. has u (or_right (nat_eq u t) (list_any (nat_eq u) ts) any)))

      each : ((t : ℕ) → list_any (nat_eq t) (passed_over q) ≡ true → (nat_le 1 t && nat_le t (reach q) && not (is_in (standing_gaps q) t)) ≡ true) → list_all (λ t. nat_le 1 t && nat_le t (reach q) && not (is_in (standing_gaps q) t)) (passed_over q) ≡ true
      each has = among (λ t. nat_le 1 t && nat_le t (reach q) && not (is_in (standing_gaps q) t)) (passed_over q) has

  pub keeps-chosen : KeepsHand q (taken_in_hand q)
  keeps-chosen = record {
    extends = record {
      gate = refl;
      formed = formed-target;
      further = reach-persisted;
      reserved = kept.numbers.window;
      still = λ t counts. let b = committed-parts q.ruling t counts in
          committed-from (target_of q) t b.0 (omega (arith, b.1, reach-persisted)) (out-of_gaps t q.swept b.2)
          (false_from_ne_true (list_any (nat_eq t) (passed_over q)) (λ any. let f = passed-found t any in true≢false (sym counts ∙ (bounds t f.0 f.1).3)));
      batch = all-by_timestamp (is_committed (target_of q)) (chosen q) (λ t has. let f = chosen-found t has in let b = bounds t f.0 f.1 in
          committed-from (target_of q) t (omega (arith, b.1)) f.3 (out-of_gaps t q.swept (no_gap-above o q t kept.numbers.origin b.1))
          (false_from_ne_true (list_any (nat_eq t) (passed_over q)) (λ any. apart t has any)));
      only = λ t counts out. only t counts out (cases_lt o.ruling.persisted t);
      rising = ap are_rising (times-of (filter (is_chosen q) q.drawn)) ∙ rising-filter time_of (is_chosen q) q.drawn rising;
    };
    persisted = reach-next;
    window = omega arith;
    gaps = gaps-of q.swept refl;
    longs = λ t any. let f = passed-found t any in (drawn-has t f.0 f.1, false_from_ne_true (has_timestamp (chosen q) t) (λ has. apart t has any));
    drawn = λ t c found. let d = chosen-drawn t c found in (d.0, d.1, d.2, d.3);
  }
    where
      by_stamped : (t : ℕ) (d : Drawn) → drawn_at q t ≡ Some d → t ≤ reach q → list_any (nat_eq t) (passed_over q) ≡ false → (b : Bool) → is_stamped d ≡ b → has_timestamp (chosen q) t ≡ true
      by_stamped t d found le short true is = reached-chosen t d found le is
      by_stamped t d found le short false is = absurd (true≢false (sym (reached-passed t d found le is) ∙ short))

      of_life : (t : ℕ) → t ≤ reach q → list_any (nat_eq t) (passed_over q) ≡ false → (c : Option Commit) (d : Option Drawn) → commit_at (covered_since o q) t ≡ c → drawn_at q t ≡ d → has_timestamp (commits_of_life o q) t ≡ true
          → (is_committed q.ruling t ≡ true) ⊎ (has_timestamp (chosen q) t ≡ true)
      of_life t le short (Some c) d covered found has = inl (timestamp-all (is_committed q.ruling) (covered_since o q) t (all-drop (λ c. is_committed q.ruling c.timestamp) o.opened q.history kept.numbers.covered) (commit_at-some (covered_since o q) t c covered))
      of_life t le short None (Some d) covered found has = inr (by_stamped t d found le short (is_stamped d) refl)
      of_life t le short None None covered found has = grind (arith, commit_at-has, commit_at-append, commit_at-drawn)

      only : (t : ℕ) → is_committed (target_of q) t ≡ true → is_in q.ruling.gaps t ≡ false → (o.ruling.persisted < t) ⊎ (t ≤ o.ruling.persisted) → (is_committed q.ruling t ≡ true) ⊎ (has_timestamp (chosen q) t ≡ true)
      only t counts out (inl above) =
          let b = committed-parts (target_of q) t counts in
          of_life t b.1 b.3 (commit_at (covered_since o q) t) (drawn_at q t) refl refl (kept.numbers.origin.each t above (omega (arith, b.1, reach-next)))
      only t counts out (inr le) =
          let b = committed-parts (target_of q) t counts in
          inl (committed-from q.ruling t b.0 (omega (arith, le, kept.numbers.origin.further)) out
          (false_from_ne_true (list_any (nat_eq t) q.ruling.longs) (λ long. let f = has-drawn t (kept.numbers.longs t long) in omega (arith, le, (bounds t f.0 f.1).1))))

  -- ---- if all that is drawn is stamped

  module _ (all : list_all is_stamped q.drawn ≡ true) where
    stamped-found : (t : ℕ) (d : Drawn) → drawn_at q t ≡ Some d → is_stamped d ≡ true
    stamped-found t d found = drawn-fact is_stamped t d all found

    none-below : (t : ℕ) → unstamped_below q t ≡ 0
    none-below t =
        length-filtered (λ e. nat_lt (time_of e) t && not (is_stamped e)) 0 q.drawn
        ∙ ap (λ (ds : List Drawn). 0 + length ds) (filter-none (λ e. nat_lt (time_of e) t && not (is_stamped e)) q.drawn (all-by_found (λ e. not (nat_lt (time_of e) t && not (is_stamped e))) q.drawn rising (λ e found. tests (nat_lt (time_of e) t) (is_stamped e) (stamped-found (time_of e) e found))))
        ∙ omega arith
      where
        tests : (a b : Bool) → b ≡ true → not (a && not b) ≡ true
        tests true true e = refl
        tests false true e = refl
        tests a false e = cc e

    each-reached : (d : Drawn) → drawn_at q (time_of d) ≡ Some d → time_of d ≤ reach q
    each-reached d found =
        max-has q.ruling.persisted (time_of d) (map time_of (filter (may_be_covered q) q.drawn))
        (any-map (nat_le (time_of d)) time_of (filter (may_be_covered q) q.drawn)
        ∙ weaker (filter (may_be_covered q) q.drawn) (kept-by_filter (may_be_covered q) q.drawn (time_of d) d found (and_from (is_stamped d) (nat_le (unstamped_below q (time_of d)) (most_longs q.layout.version)) (stamped-found (time_of d) d found) (le-leb (unstamped_below q (time_of d)) (most_longs q.layout.version) (omega (arith, none-below (time_of d)))))))
      where
        weaker : (ds : List Drawn) → list_any (λ e. nat_eq (time_of e) (time_of d)) ds ≡ true → list_any (λ e. nat_le (time_of d) (time_of e)) ds ≡ true
        weaker [] any = any
        weaker (e ∷ ds) any = elim (or_cases (nat_eq (time_of e) (time_of d)) (list_any (λ e. nat_eq (time_of e) (time_of d)) ds) any) [
          | inl here ↦ or_left (nat_le (time_of d) (time_of e)) (list_any (λ e. nat_le (time_of d) (time_of e)) ds) (le-leb (time_of d) (time_of e) (omega (arith, eqb-true (time_of e) (time_of d) here)))
          | inr later ↦ or_right (nat_le (time_of d) (time_of e)) (list_any (λ e. nat_le (time_of d) (time_of e)) ds) (weaker ds later)
        ]

    pub all-are_chosen : chosen q ≡ drawn_of q
    all-are_chosen = ap (λ (ds : List Drawn). map (λ (d : Drawn). d.commit) ds) (keeps-all q.drawn (all-by_found (is_chosen q) q.drawn rising (λ d found. and_from (is_stamped d) (nat_le (time_of d) (reach q)) (stamped-found (time_of d) d found) (le-leb (time_of d) (reach q) (each-reached d found)))))
      where
        keeps-all : (ds : List Drawn) → list_all (is_chosen q) ds ≡ true → filter (is_chosen q) ds ≡ ds
        keeps-all [] each = refl
        keeps-all (d ∷ ds) each =
            let both = and_parts (is_chosen q d) (list_all (is_chosen q) ds) each in
            ap (λ (b : Bool). cond b (d ∷ filter (is_chosen q) ds) (filter (is_chosen q) ds)) both.0 ∙ ap (λ (es : List Drawn). d ∷ es) (keeps-all ds both.1)

    pub none-passed : passed_over q ≡ []
    none-passed = ap (λ (ds : List Drawn). map time_of ds) (filter-none (is_passed q) q.drawn (all-by_found (λ d. not (is_passed q d)) q.drawn rising (λ d found. tests (is_stamped d) (nat_le (time_of d) (reach q)) (stamped-found (time_of d) d found))))
      where
        tests : (a b : Bool) → a ≡ true → not (not a && b) ≡ true
        tests true b e = refl
        tests false b e = cc e
