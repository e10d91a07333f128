-- Which keys were drawn since a snapshot.
use Rattle.std.proofs.Common.{◌≡◌, inl, inr, ℕ, zero, suc, ◌<◌, ◌≤◌, true, false, not, ◌&&◌, List, [], ◌∷◌, ◌++◌, length, take, drop, map, refl, sym, ◌∙◌, ap, arith, Option, Some, None, is_some, true≢false}
use Rattle.std.specs.Prelude.{nat_eq, nat_lt, if◌then◌else◌}
use Rattle.std.specs.List.{list_any, list_all}
use Rattle.std.specs.Option.{option_or}
use Rattle.std.proofs.lemmas.Bool.{and_parts, or_cases, or_right, ltb-true, eqb-true, false_from_ne_true, false≢true, not-true}
use Rattle.std.proofs.lemmas.List.{take_all}
use Rattle.std.proofs.lemmas.List.Folds.{list_any-append}
use Rattle.base.specs.declared.key.Key.{Key}
use Rattle.base.specs.Commits.{Commit, writes_key}
use Rattle.base.specs.Records.{is_in, is_committed}
use Rattle.base.specs.Stands.{has_timestamp}
use Rattle.machine.specs.Machine.{State, Drawn, drawn_of}
use Rattle.base.proofs.Options.{option_or-none}
use Rattle.state_invariant.specs.Kept.{Origin, Keeps, KeepsOrigin, commits_of_life}
use Rattle.state_invariant.specs.Shown.{counts_at}
use Rattle.state_invariant.proofs.Records.{above-gaps}
use Rattle.state_invariant.proofs.Commits.{committed-bounds, uncommitted-above}
use Rattle.state_invariant.proofs.Log.{IsPlaced, placed, at-fact, one-place}
use Rattle.snapshot.specs.Snapshots.{Seen, covers}
use Rattle.simulation.specs.sessions.Sees.{Sees, last_on, is_unseen}
use Rattle.simulation.specs.sessions.Laws.{Conflicts}

-- ---- the last commit on a key

abbrev own : Key → Commit → Option ℕ
own key c = if writes_key key c then Some c.timestamp else None

pub option_or-assoc : (a b c : Option ℕ) → option_or a (option_or b c) ≡ option_or (option_or a b) c
option_or-assoc a b c = grind (arith)

pub last_on-append : (key : Key) (xs ys : List Commit) → last_on key (xs ++ ys) ≡ option_or (last_on key ys) (last_on key xs)
last_on-append key [] ys = sym (option_or-none (last_on key ys))
last_on-append key (x ∷ xs) ys = ap (λ o. option_or o (own key x)) (last_on-append key xs ys) ∙ sym (option_or-assoc (last_on key ys) (last_on key xs) (own key x))

-- there is a last one exactly if a commit writes the key
pub last_on-any : (key : Key) (cs : List Commit) → is_some (last_on key cs) ≡ list_any (writes_key key) cs
last_on-any key [] = refl
last_on-any key (c ∷ cs) = grind (arith, last_on-any key cs)

-- and it has the timestamp
pub last_on-has : (key : Key) (cs : List Commit) (t : ℕ) → last_on key cs ≡ Some t → has_timestamp cs t ≡ true
last_on-has key [] t is = absurd (cc is)
last_on-has key (c ∷ cs) t is = grind (arith, last_on-has key cs)

-- ---- what the snapshot sees, and what it doesn't

split : {X : Type 0} (m n : ℕ) (xs : List X) → m ≤ n → drop m xs ≡ drop m (take n xs) ++ drop n xs
split zero zero xs le = refl
split zero (suc n) [] le = refl
split zero (suc n) (x ∷ xs) le = ap (λ ys. x ∷ ys) (split zero n xs (omega arith))
split (suc m) zero xs le = absurd (omega (arith, le))
split (suc m) (suc n) [] le = refl
split (suc m) (suc n) (x ∷ xs) le = split m n xs (omega (arith, le))

append-assoc : {X : Type 0} (xs ys zs : List X) → (xs ++ ys) ++ zs ≡ xs ++ (ys ++ zs)
append-assoc [] ys zs = refl
append-assoc (x ∷ xs) ys zs = ap (λ ws. x ∷ ws) (append-assoc xs ys zs)

module _ (o : Origin) (q : State) (snapshot : Seen) (begun : ℕ) (kept : Keeps o q) (since : o.opened ≤ begun) (within : begun ≤ length q.history) (sees : Sees o q snapshot begun) where
  origin : KeepsOrigin o q
  origin = kept.numbers.origin

  abbrev seen : List Commit
  seen = drop o.opened (take begun q.history)

  abbrev pub unseen : List Commit
  unseen = drop begun q.history ++ drawn_of q

  whole : commits_of_life o q ≡ seen ++ unseen
  whole = ap (λ cs. cs ++ drawn_of q) (split o.opened begun q.history since) ∙ append-assoc seen (drop begun q.history) (drawn_of q)

  committed-placed : (from to t : ℕ) → IsPlaced q.history from to t → is_committed q.ruling t ≡ true
  committed-placed from to t p = ap (is_committed q.ruling) (sym p.is) ∙ at-fact (λ c. is_committed q.ruling c.timestamp) q.history 0 p.place p.commit kept.numbers.covered (omega arith) p.at

  early : (t : ℕ) → is_committed q.ruling t ≡ true → t < q.next
  early t is = omega (arith, (committed-bounds q.ruling t is).1, kept.numbers.persisted)

  -- no gap has a timestamp of the life
  out-placed : (to t : ℕ) → IsPlaced q.history o.opened to t → is_in o.ruling.gaps t ≡ false
  out-placed to t p =
      above-gaps q.layout.version o.ruling t origin.formed
      (omega (arith, ltb-true o.ruling.persisted p.commit.timestamp (at-fact (λ c. nat_lt o.ruling.persisted c.timestamp) q.history o.opened p.place p.commit origin.since p.low p.at), p.is))

  -- what it sees, it covers
  seen-covered : (t : ℕ) → has_timestamp seen t ≡ true → covers snapshot t ≡ true
  seen-covered t has = sees.covered t (early t (committed-placed o.opened begun t (placed q.history o.opened begun t has))) (λ swept. out-placed begun t (placed q.history o.opened begun t has)) ∙ or_right (is_committed o.ruling t) (has_timestamp seen t) has

  -- of a covered commit that it doesn't see
  rest-uncovered : (t : ℕ) → has_timestamp (drop begun q.history) t ≡ true → covers snapshot t ≡ false
  rest-uncovered t has =
      sees.covered t (early t (committed-placed begun (length q.history) t p)) (λ swept. above-gaps q.layout.version o.ruling t origin.formed above)
      ∙ false_from_ne_true (counts_at o q begun t) (λ counts. elim (or_cases (is_committed o.ruling t) (has_timestamp seen t) counts) [
        | inl earlier ↦ true≢false (sym earlier ∙ uncommitted-above o.ruling t above)
        | inr later ↦ apart (placed q.history o.opened begun t later)
      ])
    where
      p : IsPlaced q.history begun (length q.history) t
      p = placed q.history begun (length q.history) t (ap (λ cs. has_timestamp (drop begun cs) t) (take_all (length q.history) q.history (omega arith)) ∙ has)

      above : o.ruling.persisted < t
      above = omega (arith, ltb-true o.ruling.persisted p.commit.timestamp (at-fact (λ c. nat_lt o.ruling.persisted c.timestamp) q.history o.opened p.place p.commit origin.since (omega (arith, since, p.low)) p.at), p.is)

      apart : IsPlaced q.history o.opened begun t → ⊥
      apart r = omega (arith, p.low, r.high, one-place q.history o.opened r.place p.place r.commit p.commit origin.distinct r.low (omega (arith, since, p.low)) r.at p.at (r.is ∙ sym p.is))

  -- and of a drawn one
  drawn-facts : (t : ℕ) → has_timestamp (drawn_of q) t ≡ true → (is_committed q.ruling t ≡ false) × (t < q.next) × (o.ruling.persisted < t)
  drawn-facts t has = by q.drawn kept.numbers.drawn origin.drawn has
    where
      by : (ds : List Drawn) → list_all (λ d. not (is_committed q.ruling d.commit.timestamp) && nat_lt d.commit.timestamp q.next) ds ≡ true → list_all (λ d. nat_lt o.ruling.persisted d.commit.timestamp) ds ≡ true
          → has_timestamp (map (λ (d : Drawn). d.commit) ds) t ≡ true → (is_committed q.ruling t ≡ false) × (t < q.next) × (o.ruling.persisted < t)
      by [] all low has = absurd (false≢true has)
      by (d ∷ ds) all low has =
          let both = and_parts (not (is_committed q.ruling d.commit.timestamp) && nat_lt d.commit.timestamp q.next) (list_all (λ d. not (is_committed q.ruling d.commit.timestamp) && nat_lt d.commit.timestamp q.next) ds) all in
          let one = and_parts (not (is_committed q.ruling d.commit.timestamp)) (nat_lt d.commit.timestamp q.next) both.0 in
          let lows = and_parts (nat_lt o.ruling.persisted d.commit.timestamp) (list_all (λ d. nat_lt o.ruling.persisted d.commit.timestamp) ds) low in
          elim (or_cases (nat_eq d.commit.timestamp t) (has_timestamp (map (λ (d : Drawn). d.commit) ds) t) has) [
            | inl here ↦ grind (arith, eqb-true, not-true, ltb-true)
            | inr later ↦ by ds both.1 lows.1 later
          ]

  drawn-uncovered : (t : ℕ) → has_timestamp (drawn_of q) t ≡ true → covers snapshot t ≡ false
  drawn-uncovered t has =
      let (out, before, above) = drawn-facts t has in
      sees.covered t before (λ swept. above-gaps q.layout.version o.ruling t origin.formed above)
      ∙ false_from_ne_true (counts_at o q begun t) (λ counts. elim (or_cases (is_committed o.ruling t) (has_timestamp seen t) counts) [
        | inl earlier ↦ true≢false (sym earlier ∙ uncommitted-above o.ruling t above)
        | inr later ↦ true≢false (sym (committed-placed o.opened begun t (placed q.history o.opened begun t later)) ∙ out)
      ])

  unseen-uncovered : (t : ℕ) → has_timestamp unseen t ≡ true → covers snapshot t ≡ false
  unseen-uncovered t has = grind (arith, list_any-append, rest-uncovered, drawn-uncovered)

  pub conflict : (key : Key) → is_unseen snapshot (last_on key (commits_of_life o q)) ≡ list_any (writes_key key) unseen
  conflict key = ap (λ cs. is_unseen snapshot (last_on key cs)) whole ∙ ap (is_unseen snapshot) (last_on-append key seen unseen) ∙ by (last_on key unseen) refl ∙ last_on-any key unseen
    where
      by_seen : (x : Option ℕ) → last_on key seen ≡ x → is_unseen snapshot x ≡ false
      by_seen None found = refl
      by_seen (Some t) found = ap not (seen-covered t (last_on-has key seen t found))

      by : (x : Option ℕ) → last_on key unseen ≡ x → is_unseen snapshot (option_or x (last_on key seen)) ≡ is_some (last_on key unseen)
      by None found = by_seen (last_on key seen) refl ∙ ap (λ (x : Option ℕ). is_some x) (sym found)
      by (Some t) found = ap not (unseen-uncovered t (last_on-has key unseen t found)) ∙ ap (λ (x : Option ℕ). is_some x) (sym found)

pub conflicts : Conflicts
conflicts o q snapshot begun key kept since within sees = conflict o q snapshot begun kept since within sees key
