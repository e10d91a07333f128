-- Which version each one names, as a batch is covered.
use Rattle.std.proofs.Common.{◌≡◌, ◌⊎◌, inl, inr, ℕ, ◌+◌, ◌<◌, ◌≤◌, Bool, true, false, cond, List, length, take, refl, sym, ◌∙◌, ap, arith, Option, Some, None, slice_get}
use Rattle.std.specs.Prelude.{is_some}
use Rattle.std.proofs.Math.Seq.{take-append-add}
use Rattle.std.proofs.lemmas.List.{take_all}
use Rattle.std.proofs.lemmas.List.Sums.{fold-append}
use Rattle.base.specs.declared.key.Key.{Key}
use Rattle.base.specs.Commits.{Commit, writes_key}
use Rattle.base.specs.Stands.{has_timestamp}
use Rattle.machine.specs.Machine.{State, Drawn, Hand, Version, ByCommit, drawn_at, begun_of, state_covered}
use Rattle.state_invariant.specs.Kept.{Origin, KeepsHand, Keeps, row_in, version_by}
use Rattle.state_invariant.specs.Links.{last_row, IsFreeToDraw, ComesAfter, by_session, by_draw, by_commit, Links}
use Rattle.state_invariant.proofs.Log.{found-place}
use Rattle.state_invariant.proofs.Places.{place-append, at-more, at-front}
use Rattle.state_invariant.proofs.LastRows.{none-row}
use Rattle.state_invariant.proofs.covers.Kept.{batch-drawn, found-left, found-now, take-now, drawn-of, outside, before-it}

module _ (o : Origin) (q : State) (hand : Hand) (kept : Keeps o q) (k : KeepsHand q hand) where
  abbrev now : State
  now = state_covered q hand

  all-now : (key : Key) → ((j : ℕ) (c : Commit) → slice_get hand.commits j ≡ Some c → writes_key key c ≡ false) → last_row (take (length now.history) now.history) key ≡ last_row q.history key
  all-now key none =
      ap (λ (cs : List Commit). last_row cs key) (take_all (length now.history) now.history (omega arith))
      ∙ fold-append (λ (last : Option ℕ) (commit : Commit). cond (is_some (row_in commit.writes key)) (Some commit.timestamp) last) None q.history hand.commits
      ∙ none-row key (last_row q.history key) hand.commits none

  some-now : (key : Key) (j : ℕ) (c : Commit) → slice_get hand.commits j ≡ Some c → writes_key key c ≡ true → last_row (take (length q.history + j) now.history) key ≡ last_row q.history key
  some-now key j c at writes =
      ap (λ (cs : List Commit). last_row cs key) (take-append-add q.history hand.commits j)
      ∙ fold-append (λ (last : Option ℕ) (commit : Commit). cond (is_some (row_in commit.writes key)) (Some commit.timestamp) last) None q.history (take j hand.commits)
      ∙ none-row key (last_row q.history key) (take j hand.commits) (before-it o q hand kept k key j c at writes)

  all-then : (key : Key) → last_row (take (length q.history) q.history) key ≡ last_row q.history key
  all-then key = ap (λ (cs : List Commit). last_row cs key) (take_all (length q.history) q.history (omega arith))

  -- what comes before a version then came before it
  came : (v : Version) (place t : ℕ) → ComesAfter o now v place → last_row (take place now.history) v.key ≡ Some t → (place : ℕ) × ComesAfter o q v place × (last_row (take place q.history) v.key ≡ Some t)
  came v place t (by_session n key works free) last = (length q.history, by_session n key works was, all-then key ∙ sym (all-now key (λ j c at. in-batch j c at)) ∙ last)
    where
      begun-within : begun_of (q.sessions n) ≤ length q.history
      begun-within = grind arith

      in-batch : (j : ℕ) (c : Commit) → slice_get hand.commits j ≡ Some c → writes_key key c ≡ false
      in-batch j c at = free.covered (length q.history + j) c (omega (arith, begun-within)) (at-more q.history hand.commits j ∙ at)

      was-drawn : (t : ℕ) (d : Drawn) → drawn_at q t ≡ Some d → (b : Bool) → has_timestamp hand.commits t ≡ b → writes_key key d.commit ≡ false
      was-drawn t d found false out = free.drawn t d (found-left o q hand kept k t out ∙ found)
      was-drawn t d found true has =
          let e = batch-drawn o q hand kept k t has in
          let both : Some e.0 ≡ Some d = sym e.1 ∙ found in
          let same : e.0 ≡ d = cc both in
          let p = found-place hand.commits 0 t e.0.commit e.2 in
          ap (λ (d : Drawn). writes_key key d.commit) (sym same) ∙ in-batch p.0 e.0.commit p.2

      was : IsFreeToDraw q n key
      was = record {
        covered = λ place c low at. free.covered place c low (at-front q.history hand.commits place c at);
        drawn = λ t d found. was-drawn t d found (has_timestamp hand.commits t) refl;
      }
  came v place t (by_draw u key d found writes) last = (length q.history, by_draw u key d (found-now o q hand kept k u d found).1 writes, all-then key ∙ sym (all-now key (outside o q hand kept k u d key found writes)) ∙ last)
  came v place t (by_commit u at key c since found is writes) last = by (place-append q.history hand.commits at c found)
    where
      by : ((at < length q.history) × (slice_get q.history at ≡ Some c)) ⊎ ((j : ℕ) × (at ≡ length q.history + j) × (slice_get hand.commits j ≡ Some c)) → (place : ℕ) × ComesAfter o q (version_by key (ByCommit u)) place × (last_row (take place q.history) key ≡ Some t)
      by (inl (lt, there)) = (at, by_commit u at key c since there is writes, sym (ap (λ (cs : List Commit). last_row cs key) (take-now o q hand kept k at (omega (arith, lt)))) ∙ last)
      by (inr (j, place_is, there)) =
          let d = drawn-of o q hand kept k j c there in
          (length q.history, by_draw u key d.0 (ap (drawn_at q) (sym is) ∙ d.1) (ap (writes_key key) d.2 ∙ writes), all-then key ∙ sym (some-now key j c there writes) ∙ ap (λ (n : ℕ). last_row (take n now.history) key) (sym place_is) ∙ last)

  pub links-covered : (value : ℕ → ℕ) → Links o q value → Links o now value
  links-covered value links = record {
    each = λ slot v lt held place t earlier after last low there.
        let c = came v place t after last in
        let l = links.each slot v lt held c.0 t earlier c.1 c.2 low there in
        record { read = l.read };
  }
