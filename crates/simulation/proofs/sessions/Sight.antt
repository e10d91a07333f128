-- A snapshot stays one over every step.
use Rattle.std.proofs.Common.{◌≡◌, inl, inr, ℕ, zero, suc, ◌+◌, ◌<◌, ◌≤◌, Bool, true, false, cond, ◌||◌, List, [], ◌∷◌, ◌++◌, length, take, drop, refl, sym, ◌∙◌, ap, subst, arith, Option, Some, None, append-nil}
use Rattle.std.specs.Prelude.{nat_lt}
use Rattle.std.proofs.lemmas.Bool.{or_cases, ltb-true, ltb-false, false_from_ne_true}
use Rattle.base.specs.declared.step.Step.{Step}
use Rattle.base.specs.declared.step.Step.TheVariants.{Begin, Get, Scan, Put, Delete, Draw, Stamp, Poll, Abort, End, Commit as CommitTick, Collect}
use Rattle.base.specs.declared.step.Stage.{Stage}
use Rattle.base.specs.declared.step.Reply.{Reply}
use Rattle.base.specs.Commits.{Commit, Writes}
use Rattle.base.specs.Records.{is_committed}
use Rattle.base.specs.Stands.{has_timestamp}
use Rattle.machine.specs.Machine.{State, Hand, Stepped, refused, answered, memory_refused, device_failed, next_state, next_stage, state_drawn, state_ticked, state_ticked_on, state_covered, is_idle, taken_in_hand, writes_of}
use Rattle.machine.specs.Collecting.{is_at_slot, slot_visited, sweep_ended}
use Rattle.base.proofs.Lists.{all-take, all-drop}
use Rattle.state_invariant.specs.Kept.{Origin, Keeps}
use Rattle.state_invariant.specs.Shown.{IsOutOfSwept, counts_at}
use Rattle.state_invariant.proofs.Commits.{committed-bounds, uncommitted-above, timestamp-all}
use Rattle.snapshot.specs.Snapshots.{Seen, covers}
use Rattle.simulation.specs.sessions.Sees.{Sees}

take-front : {X : Type 0} (n : ℕ) (xs ys : List X) → n ≤ length xs → take n (xs ++ ys) ≡ take n xs
take-front zero xs ys le = refl
take-front (suc n) [] ys le = absurd (omega (arith, le))
take-front (suc n) (x ∷ xs) ys le = ap (λ zs. x ∷ zs) (take-front n xs ys (omega (arith, le)))

module _ (o : Origin) (q : State) (snapshot : Seen) (begun : ℕ) (within : begun ≤ length q.history) (kept : Keeps o q) (sees : Sees o q snapshot begun) where
  -- the history grows, and no timestamp is drawn
  moved : (q' : State) (more : List Commit) → q'.history ≡ q.history ++ more → q'.next ≡ q.next → (q.swept ≡ true → q'.swept ≡ true) → Sees o q' snapshot begun
  moved q' more grown same swept = record {
    covered = λ t before out. sees.covered t (omega (arith, before, same)) (λ is. out (swept is)) ∙ ap (λ cs. is_committed o.ruling t || has_timestamp (drop o.opened cs) t) (sym (ap (take begun) grown ∙ take-front begun q.history more within));
    early = omega (arith, sees.early, same);
    gaps = sees.gaps;
  }

  pub still : (q' : State) → q'.history ≡ q.history → q'.next ≡ q.next → (q.swept ≡ true → q'.swept ≡ true) → Sees o q' snapshot begun
  still q' same next swept = moved q' [] (same ∙ sym (append-nil q.history)) next swept

  -- a timestamp that isn't drawn doesn't count
  uncounted : (t : ℕ) → q.next ≤ t → counts_at o q begun t ≡ false
  uncounted t beyond = false_from_ne_true (counts_at o q begun t) (λ counts. elim (or_cases (is_committed o.ruling t) (has_timestamp (drop o.opened (take begun q.history)) t) counts) [
    | inl earlier ↦ omega (arith, beyond, kept.numbers.persisted, kept.numbers.origin.further, (committed-bounds o.ruling t earlier).1)
    | inr later ↦ omega (arith, beyond, kept.numbers.persisted, (committed-bounds q.ruling t (committed t later)).1)
  ])
    where
      committed : (t : ℕ) → has_timestamp (drop o.opened (take begun q.history)) t ≡ true → is_committed q.ruling t ≡ true
      committed t has =
          timestamp-all (is_committed q.ruling) (drop o.opened (take begun q.history)) t
          (all-drop (λ (c : Commit). is_committed q.ruling c.timestamp) o.opened (take begun q.history) (all-take (λ (c : Commit). is_committed q.ruling c.timestamp) begun q.history kept.numbers.covered)) has

  -- one timestamp is drawn
  drawn : (q' : State) → q'.history ≡ q.history → q'.next ≡ q.next + 1 → (q.swept ≡ true → q'.swept ≡ true) → Sees o q' snapshot begun
  drawn q' same one_more swept = record { covered = λ t before out. by t before out (nat_lt t q.next) refl; early = omega (arith, sees.early, one_more); gaps = sees.gaps }
    where
      count-same : (t : ℕ) → counts_at o q begun t ≡ counts_at o q' begun t
      count-same t = ap (λ cs. is_committed o.ruling t || has_timestamp (drop o.opened (take begun cs)) t) (sym same)

      by : (t : ℕ) → t < q'.next → IsOutOfSwept o q' t → (b : Bool) → nat_lt t q.next ≡ b → covers snapshot t ≡ counts_at o q' begun t
      by t before out true is = sees.covered t (ltb-true t q.next is) (λ s. out (swept s)) ∙ count-same t
      by t before out false is =
          let beyond : q.next ≤ t = ltb-false t q.next is in
          uncommitted-above (record { gate = 0; persisted = snapshot.persisted; dirty = 0; gaps = snapshot.gaps; longs = snapshot.longs }) t (omega (arith, sees.early, beyond))
          ∙ sym (uncounted t beyond) ∙ count-same t

  sees-drawn : (n : ℕ) (writes : Writes) → Sees o (state_drawn q n writes) snapshot begun
  sees-drawn n [] = still (state_drawn q n []) refl refl (λ s. s)
  sees-drawn n (write ∷ writes) = drawn (state_drawn q n (write ∷ writes)) refl refl (λ s. s)

  sees-on : (hand : Hand) (stage : Option Stage) → Sees o (state_ticked_on q hand stage) snapshot begun
  sees-on hand None = moved (state_covered q hand) hand.commits refl refl (λ s. s)
  sees-on hand (Some stage) = still (state_ticked_on q hand (Some stage)) refl refl (λ s. s)

  sees-ticked : (hand : Option Hand) → Sees o (state_ticked q hand) snapshot begun
  sees-ticked (Some hand) = sees-on hand (next_stage q hand)
  sees-ticked None = by (is_idle q)
    where
      by : (b : Bool) → Sees o (cond b q (record q { hand = Some (taken_in_hand q) })) snapshot begun
      by true = sees
      by false = still (record q { hand = Some (taken_in_hand q) }) refl refl (λ s. s)

  sees-visited : (b : Bool) → Sees o (cond b (slot_visited q) (sweep_ended q)) snapshot begun
  sees-visited true = still (slot_visited q) refl refl (λ s. s)
  sees-visited false = still (sweep_ended q) refl refl (λ s. refl)

  sees-next : (step : Step) → Sees o (next_state q step) snapshot begun
  sees-next Begin = still (next_state q Begin) refl refl (λ s. s)
  sees-next (Get n key) = sees
  sees-next (Scan n table lo hi) = sees
  sees-next (Put n key row) = still (next_state q (Put n key row)) refl refl (λ s. s)
  sees-next (Delete n key) = still (next_state q (Delete n key)) refl refl (λ s. s)
  sees-next (Draw n) = sees-drawn n (writes_of (q.sessions n))
  sees-next (Stamp n) = still (next_state q (Stamp n)) refl refl (λ s. s)
  sees-next (Poll n) = sees
  sees-next (Abort n) = still (next_state q (Abort n)) refl refl (λ s. s)
  sees-next (End n) = still (next_state q (End n)) refl refl (λ s. s)
  sees-next CommitTick = sees-ticked q.hand
  sees-next Collect = sees-visited (is_at_slot q)

  pub sees-step : (step : Step) (reply : Reply) (q' : State) → Stepped q step reply q' → Sees o q' snapshot begun
  sees-step step reply q' (refused fault is told same) = subst (λ p. Sees o p snapshot begun) (sym same) sees
  sees-step step reply q' (answered none answers same) = subst (λ p. Sees o p snapshot begun) (sym same) (sees-next step)
  sees-step step reply q' (memory_refused none takes told same) = subst (λ p. Sees o p snapshot begun) (sym same) sees
  sees-step step reply q' (device_failed none makes told same) = subst (λ p. Sees o p snapshot begun) (sym same) (still (record q { failed = true }) refl refl (λ s. s))
