-- The ruling record as a snapshot.
use Rattle.std.proofs.Common.{◌≡◌, inl, inr, ℕ, ◌<◌, ◌≤◌, Bool, true, false, not, ◌&&◌, List, [], ◌∷◌, length, take, drop, map, refl, sym, ◌∙◌, ap, arith}
use Rattle.std.specs.Prelude.{nat_eq, nat_lt, nat_le}
use Rattle.std.specs.List.{list_all}
use Rattle.std.specs.Cmp.{both_ways}
use Rattle.std.proofs.lemmas.Bool.{and_parts, or_left, or_right, or_cases, leb-true, leb-false, le-leb, eqb-true, false≢true}
use Rattle.std.proofs.lemmas.List.{take_all}
use Rattle.std.proofs.lemmas.List.Folds.{list_any-append}
use Rattle.base.specs.Commits.{Commit}
use Rattle.base.specs.Records.{is_in, is_committed}
use Rattle.base.specs.Stands.{has_timestamp}
use Rattle.machine.specs.Machine.{State, Drawn, drawn_of}
use Rattle.base.proofs.Lists.{all-drop}
use Rattle.state_invariant.specs.Kept.{Origin, Keeps, KeepsOrigin, covered_since}
use Rattle.state_invariant.specs.Shown.{IsOutOfSwept, counts_at}
use Rattle.state_invariant.proofs.Commits.{timestamp-all}
use Rattle.snapshot.specs.Snapshots.{seen_by}
use Rattle.simulation.specs.sessions.Sees.{Sees}

module _ (o : Origin) (q : State) (kept : Keeps o q) where
  origin : KeepsOrigin o q
  origin = kept.numbers.origin

  -- what is in no gap of the record and in no swept gap is in no gap with which the image was opened
  no-gap : (t : ℕ) → IsOutOfSwept o q t → not (is_in q.ruling.gaps t) ≡ true → not (is_in o.ruling.gaps t) ≡ true
  no-gap t out is = grind (arith)

  -- what the ruling record commits, up to what the opening's record persisted, that record committed too
  committed-before : (t : ℕ) → IsOutOfSwept o q t → t ≤ o.ruling.persisted → is_committed q.ruling t ≡ true → is_committed o.ruling t ≡ true
  committed-before t out low is = grind (arith, le-leb, no-gap)

  -- a drawn commit isn't committed
  drawn-uncommitted : (t : ℕ) → has_timestamp (drawn_of q) t ≡ true → is_committed q.ruling t ≡ true → ⊥
  drawn-uncommitted t has is = by q.drawn kept.numbers.drawn has
    where
      by : (ds : List Drawn) → list_all (λ d. not (is_committed q.ruling d.commit.timestamp) && nat_lt d.commit.timestamp q.next) ds ≡ true → has_timestamp (map (λ (d : Drawn). d.commit) ds) t ≡ true → ⊥
      by [] all has = false≢true has
      by (d ∷ ds) all has =
          let both = and_parts (not (is_committed q.ruling d.commit.timestamp) && nat_lt d.commit.timestamp q.next) (list_all (λ d. not (is_committed q.ruling d.commit.timestamp) && nat_lt d.commit.timestamp q.next) ds) all in
          let one = and_parts (not (is_committed q.ruling d.commit.timestamp)) (nat_lt d.commit.timestamp q.next) both.0 in
          elim (or_cases (nat_eq d.commit.timestamp t) (has_timestamp (map (λ (d : Drawn). d.commit) ds) t) has) [
            | inl here ↦ false≢true (ap not (sym is ∙ ap (is_committed q.ruling) (sym (eqb-true d.commit.timestamp t here))) ∙ one.0)
            | inr later ↦ by ds both.1 later
          ]

  counts-now : (t : ℕ) → t < q.next → IsOutOfSwept o q t → is_committed q.ruling t ≡ true → counts_at o q (length q.history) t ≡ true
  counts-now t before out is = by (nat_le t o.ruling.persisted) refl
    where
      here : has_timestamp (covered_since o q) t ≡ true → counts_at o q (length q.history) t ≡ true
      here has = or_right (is_committed o.ruling t) (has_timestamp (drop o.opened (take (length q.history) q.history)) t) (ap (λ cs. has_timestamp (drop o.opened cs) t) (take_all (length q.history) q.history (omega arith)) ∙ has)

      by : (b : Bool) → nat_le t o.ruling.persisted ≡ b → counts_at o q (length q.history) t ≡ true
      by true low = or_left (is_committed o.ruling t) (has_timestamp (drop o.opened (take (length q.history) q.history)) t) (committed-before t out (leb-true t o.ruling.persisted low) is)
      by false high =
          elim (or_cases (has_timestamp (covered_since o q) t) (has_timestamp (drawn_of q) t) (sym (list_any-append (λ (c : Commit). nat_eq c.timestamp t) (covered_since o q) (drawn_of q)) ∙ origin.each t (leb-false t o.ruling.persisted high) before)) [
            | inl covered ↦ here covered
            | inr drawn ↦ absurd (drawn-uncommitted t drawn is)
          ]

  counted-now : (t : ℕ) → counts_at o q (length q.history) t ≡ true → is_committed q.ruling t ≡ true
  counted-now t counts = elim (or_cases (is_committed o.ruling t) (has_timestamp (drop o.opened (take (length q.history) q.history)) t) counts) [
    | inl earlier ↦ origin.still t earlier
    | inr later ↦ timestamp-all (is_committed q.ruling) (covered_since o q) t (all-drop (λ (c : Commit). is_committed q.ruling c.timestamp) o.opened q.history kept.numbers.covered) (ap (λ cs. has_timestamp (drop o.opened cs) t) (sym (take_all (length q.history) q.history (omega arith))) ∙ later)
  ]

  pub present-sees : Sees o q (seen_by q.ruling) (length q.history)
  present-sees = record {
    covered = λ t before out. both_ways (is_committed q.ruling t) (counts_at o q (length q.history) t) (counts-now t before out) (counted-now t);
    early = kept.numbers.persisted;
    gaps = λ t inside. grind (arith);
  }
