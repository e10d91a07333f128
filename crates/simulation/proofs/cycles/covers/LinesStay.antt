-- The lines of the pending batch stay over each step of a session.
use Rattle.std.proofs.Common.{◌≡◌, ℕ, zero, suc, ◌+◌, ◌<◌, ◌≤◌, Bool, true, false, cond, ◌&&◌, List, refl, sym, ◌∙◌, ap, arith}
use Rattle.std.specs.Prelude.{Option, Some, None, nat_eq}
use Rattle.std.specs.List.{range_with_len, flat_map, list_any}
use Rattle.std.proofs.lemmas.Bool.{and_parts, ne_eqb, eqb-true, false_from_ne_true}
use Rattle.base.specs.declared.key.Key.{Key}
use Rattle.base.specs.declared.step.Step.{Step}
use Rattle.base.specs.declared.step.Step.TheVariants.{Begin, Get, Scan, Put, Delete, Draw, Stamp, Poll, Abort, End, Commit as CommitTick, Collect}
use Rattle.base.specs.declared.step.Reply.{Reply}
use Rattle.base.specs.Commits.{Commit, writes_key, last_writer}
use Rattle.machine.specs.Laws.{is_no_tick}
use Rattle.base.specs.Stands.{has_timestamp}
use Rattle.machine.specs.Machine.{State, Hand, Version, BySession, Stepped, refused, answered, memory_refused, device_failed, next_state, held_after_put, held_after_delete, held_after_abort, is_by, by_commit}
use Rattle.machine.specs.Collecting.{is_at_slot, held_after_visit, slot_visited, sweep_ended}
use Rattle.state_invariant.specs.Kept.{Origin, Keeps, KeepsHand, version_by}
use Rattle.state_invariant.proofs.Lookups.{first_below-some}
use Rattle.state_invariant.proofs.collector.Garbage.{IsGarbage, garbage-undrawn, garbage-replaced}
use Rattle.state_invariant.proofs.collector.Kept.{OnlyFrees, visit-frees}
use Rattle.state_invariant.proofs.Commits.{commit_at-has, committed-bounds}
use Rattle.device_invariant.specs.Log.{lines_at, lines_in, is_own, is_ended}
use Rattle.device_invariant.proofs.PresentValues.{drawn-bounds, last-committed}
use Rattle.simulation.specs.cycles.Laws.{LinesStay}

-- a version that takes the place of another is as much the batch's own, and as much ended by it
record IsAlike (q : State) (commits : List Commit) (v w : Option Version) : Type 0 where
  pub own : is_own commits v ≡ is_own commits w
  pub ended : is_ended q commits v ≡ is_ended q commits w

alike : (q : State) (commits : List Commit) (v : Option Version) → IsAlike q commits v v
alike q commits v = record { own = refl; ended = refl }

-- a session's version is nobody's
by_session : (q : State) (commits : List Commit) (v : Option Version) (key : Key) (n : ℕ) → v ≡ None → IsAlike q commits (Some (version_by key (BySession n))) v
by_session q commits v key n none = record { own = sym (ap (is_own commits) none); ended = sym (ap (is_ended q commits) none) }

given_back : (q : State) (commits : List Commit) (v : Version) (n : ℕ) → is_by n v.writer ≡ true → IsAlike q commits None (Some v)
given_back q commits v n by_it = grind arith

lines-alike : (q : State) (held : ℕ → Option Version) (commits : List Commit) (from n : ℕ) → ((slot : ℕ) → from ≤ slot → slot < from + n → IsAlike q commits (held slot) (q.held slot))
    → flat_map (lines_at (record q { held = held }) commits) (range_with_len from n) ≡ flat_map (lines_at q commits) (range_with_len from n)
lines-alike q held commits from zero each = refl
lines-alike q held commits from (suc n) each = grind (arith, lines-alike q held commits (from + 1) n)

held-lines : (q : State) (held : ℕ → Option Version) (commits : List Commit) → ((slot : ℕ) → slot < q.layout.slots → IsAlike q commits (held slot) (q.held slot)) → lines_in (record q { held = held }) commits ≡ lines_in q commits
held-lines q held commits each = lines-alike q held commits 0 q.layout.slots (λ slot le lt. each slot (omega (arith, lt)))

-- ---- steps that change what holds slots

put-alike : (q : State) (commits : List Commit) (n : ℕ) (key : Key) (slot : ℕ) → IsAlike q commits (held_after_put q n key slot) (q.held slot)
put-alike q commits n key slot = grind (arith, alike, first_below-some, by_session, eqb-true)

delete-alike : (q : State) (commits : List Commit) (n : ℕ) (key : Key) (slot : ℕ) → IsAlike q commits (held_after_delete q n key slot) (q.held slot)
delete-alike q commits n key slot = grind (arith, given_back, and_parts, alike)

abort-alike : (q : State) (commits : List Commit) (n : ℕ) (slot : ℕ) → IsAlike q commits (held_after_abort q n slot) (q.held slot)
abort-alike q commits n slot = grind (arith, given_back, alike)

module _ (o : Origin) (q : State) (hand : Hand) (kept : Keeps o q) (in_hand : q.hand ≡ Some hand) where
  k : KeepsHand q hand
  k = kept.numbers.hand hand in_hand

  -- the timestamp that is drawn next isn't one of the batch's
  next-apart : has_timestamp hand.commits q.next ≡ false
  next-apart = false_from_ne_true (has_timestamp hand.commits q.next) (λ has. never has)
    where
      never : has_timestamp hand.commits q.next ≡ true → ⊥
      never has =
          let c = commit_at-has hand.commits q.next has in
          let d = k.drawn q.next c.0 c.1 in
          let below = (drawn-bounds o q kept q.next d.0 d.1).1 in
          omega (arith, below)

  next-unwritten : (key : Key) → nat_eq (last_writer q.history key) q.next ≡ false
  next-unwritten key = grind (arith, ne_eqb, last-committed, committed-bounds)

  draw-alike : (n slot : ℕ) → IsAlike q hand.commits (by_commit n q.next (q.held slot)) (q.held slot)
  draw-alike n slot = grind (arith, given_back, next-apart, next-unwritten, alike)

  -- a version that nobody reads is neither the batch's own nor ended by it
  freed-alike : (slot : ℕ) → IsGarbage q slot → IsAlike q hand.commits None (q.held slot)
  freed-alike slot g = record {
    own = sym (ap (is_own hand.commits) g.held ∙ false_from_ne_true (has_timestamp hand.commits g.timestamp) (λ has. drawn-too has));
    ended = sym (ap (is_ended q hand.commits) g.held ∙ ap (λ (b : Bool). b && list_any (writes_key g.key) hand.commits) (ne_eqb (last_writer q.history g.key) g.timestamp (λ same. garbage-replaced o q kept slot g (sym same))));
  }
    where
      drawn-too : has_timestamp hand.commits g.timestamp ≡ true → ⊥
      drawn-too has =
          let c = commit_at-has hand.commits g.timestamp has in
          let d = k.drawn g.timestamp c.0 c.1 in
          absurd (cc (sym d.1 ∙ garbage-undrawn o q kept slot g))

  visit-alike : (slot : ℕ) → OnlyFrees q (held_after_visit q q.place) slot → IsAlike q hand.commits (held_after_visit q q.place slot) (q.held slot)
  visit-alike slot a = grind (arith, alike, freed-alike)

  visit-lines : (b : Bool) → lines_in (cond b (slot_visited q) (sweep_ended q)) hand.commits ≡ lines_in q hand.commits
  visit-lines true = held-lines q (held_after_visit q q.place) hand.commits (λ slot lt. visit-alike slot (visit-frees o q q.place slot kept))
  visit-lines false = refl

  next-lines : (step : Step) → is_no_tick step ≡ true → lines_in (next_state q step) hand.commits ≡ lines_in q hand.commits
  next-lines Begin is = refl
  next-lines (Get n key) is = refl
  next-lines (Scan n table lo hi) is = refl
  next-lines (Put n key row) is = held-lines q (held_after_put q n key) hand.commits (λ slot lt. put-alike q hand.commits n key slot)
  next-lines (Delete n key) is = held-lines q (held_after_delete q n key) hand.commits (λ slot lt. delete-alike q hand.commits n key slot)
  next-lines (Draw n) is = grind (arith, held-lines, draw-alike)
  next-lines (Stamp n) is = refl
  next-lines (Poll n) is = refl
  next-lines (Abort n) is = held-lines q (held_after_abort q n) hand.commits (λ slot lt. abort-alike q hand.commits n slot)
  next-lines (End n) is = refl
  next-lines CommitTick is = absurd (cc is)
  next-lines Collect is = visit-lines (is_at_slot q)

  stepped-lines : (step : Step) (reply : Reply) (q' : State) → is_no_tick step ≡ true → Stepped q step reply q' → lines_in q' hand.commits ≡ lines_in q hand.commits
  stepped-lines step reply q' is (refused fault why told same) = ap (λ (p : State). lines_in p hand.commits) same
  stepped-lines step reply q' is (answered none told same) = ap (λ (p : State). lines_in p hand.commits) same ∙ next-lines step is
  stepped-lines step reply q' is (memory_refused none takes told same) = ap (λ (p : State). lines_in p hand.commits) same
  stepped-lines step reply q' is (device_failed none makes told same) = ap (λ (p : State). lines_in p hand.commits) same

pub lines-stay : LinesStay
lines-stay o q step reply q' hand kept in_hand is stepped = stepped-lines o q hand kept in_hand step reply q' is stepped
