-- What the slots show after a put, and after one that the device stopped midway.
use Rattle.std.proofs.Common.{◌≡◌, ◌≢◌, ◌⊎◌, inl, inr, ℕ, ◌<◌, true, List, refl, sym, ◌∙◌, ap, subst, arith, Option, Some, None, true≢false}
use Rattle.std.specs.Prelude.{unwrap_or, IsTrue}
use Rattle.std.proofs.lemmas.Bool.{cases_eq}
use Rattle.base.specs.declared.key.Key.{Key}
use Rattle.base.specs.declared.step.Step.TheVariants.{Put}
use Rattle.machine.specs.Machine.{State, Version, Writer, BySession, held_after_put, next_state, refusal}
use Rattle.base.proofs.Layouts.{line-words}
use Rattle.state_invariant.specs.Kept.{Origin, Keeps, version_by}
use Rattle.state_invariant.specs.Shown.{word_of, Spells, is_drawn_on, Class, Free, Waiting, Begun, Newest, Replaced, class_of, class_of_version, HasBegun, IsHidden, ShowsAs, SlotShows, SlotsShow, SameWords, StoresPut, StopsPut}
use Rattle.state_invariant.proofs.Lookups.{replaced-other}
use Rattle.state_invariant.proofs.Spelling.{spells-same}
use Rattle.state_invariant.proofs.steps.Refusals.{allowed}
use Rattle.state_invariant.proofs.sessions.Steps.{with_active, lookup-here, lookup-there, own_slot-none, free_slot-some, keeps-put}
use Rattle.state_invariant.proofs.steps.ShownStays.{Carries, shows-carries, class-same, wanted-commit, with_all, carries-with}
use Rattle.state_invariant.proofs.steps.Shown.{shows-failed}

-- ---- other values, the same words

pub shows-values : (o : Origin) (q : State) (value new : ℕ → ℕ) (slot : ℕ) (class : Class) → SameWords q.layout value new slot → ShowsAs o q value slot class → ShowsAs o q new slot class
shows-values o q value new slot class same shows = by class shows
  where
    begin-is : new (word_of q.layout slot 0) ≡ value (word_of q.layout slot 0)
    begin-is = same.each 0 (omega (arith, line-words q.layout.version))

    end-is : new (word_of q.layout slot 1) ≡ value (word_of q.layout slot 1)
    end-is = same.each 1 (omega (arith, line-words q.layout.version))

    spells : (key : Key) (row : List ℕ) → Spells q.layout value slot key row → Spells q.layout new slot key row
    spells key row s = spells-same q.layout value new slot key row s (λ w low high. same.each w high)

    by : (class : Class) → ShowsAs o q value slot class → ShowsAs o q new slot class
    by Free h = subst (λ (b : ℕ). IsHidden o q b (new (word_of q.layout slot 1))) (sym begin-is) (subst (IsHidden o q (value (word_of q.layout slot 0))) (sym end-is) h)
    by (Waiting key row) w = record {
      begin = subst (λ (b : ℕ). (b ≡ 0) ⊎ ((q.failed ≡ true) × IsTrue (is_drawn_on q key b))) (sym begin-is) w.begin;
      end = λ up. end-is ∙ w.end up;
      spells = λ up. spells key row (w.spells up);
    }
    by (Begun t key row) w = record { begin = begin-is ∙ w.begin; end = end-is ∙ w.end; spells = spells key row w.spells }
    by (Newest t key row) w = grind (arith, begin-is, end-is, spells)
    by (Replaced t key row) w = record { begin = subst (HasBegun o t) (sym begin-is) w.begin; ended = λ u f. end-is ∙ w.ended u f; spells = spells key row w.spells }

-- ---- a put

module _ (o : Origin) (q : State) (n : ℕ) (key : Key) (row : List ℕ) (kept : Keeps o q) (none : refusal q (Put n key row) ≡ None) (slot : ℕ) (lt : slot < q.layout.slots)
    (held : held_after_put q n key slot ≡ Some (version_by key (BySession n))) where
  abbrev put : State
  put = with_all q (with_active q n key (Some row)) (held_after_put q n key) q.failed q.hand

  keeps-then : Keeps o put
  keeps-then = keeps-put o q n key row kept none

  -- the other slots are held as before
  pub held-other : (s : ℕ) → s ≢ slot → held_after_put q n key s ≡ q.held s
  held-other s apart = grind (arith, own_slot-none, replaced-other, cases_eq)

  not-own : (s : ℕ) → s < q.layout.slots → s ≢ slot → q.held s ≡ Some (version_by key (BySession n)) → ⊥
  not-own s lt_s apart own = apart (keeps-then.owns.once s slot (version_by key (BySession n)) lt_s lt (held-other s apart ∙ own) held)

  class-other : (s : ℕ) → s < q.layout.slots → s ≢ slot → class_of o put s ≡ class_of o q s
  class-other s lt_s apart =
      ap (class_of_version o put) (held-other s apart)
      ∙ class-same o q (with_active q n key (Some row)) (held_after_put q n key) q.failed q.hand (q.held s)
      (λ v at. wanted-commit o q (with_active q n key (Some row)) (held_after_put q n key) q.failed q.hand v
      (λ m by. ap (λ (x : Option (Option (List ℕ))). unwrap_or x None) (lookup-there q n key (Some row) m v.key
      (λ same one. not-own s lt_s apart (at ∙ ap (λ (w : Writer). Some (version_by v.key w)) by ∙ ap (λ (j : ℕ). Some (version_by v.key (BySession j))) same ∙ ap (λ (k : Key). Some (version_by k (BySession n))) one)))))

  class-own : class_of o put slot ≡ Waiting key row
  class-own = grind (arith, lookup-here)

  carries-put : Carries o q put
  carries-put =
      let a = allowed q (Put n key row) none in
      grind (arith, carries-with) steps 500000

  shows-put : (value new : ℕ → ℕ) → StoresPut q.layout value new slot key row → SlotsShow o q value → SlotsShow o put new
  shows-put value new stored shows = record { each = λ s lt_s. by s lt_s (cases_eq s slot) }
    where
      by : (s : ℕ) → s < q.layout.slots → (s ≡ slot) ⊎ (s ≢ slot) → SlotShows o put new s
      by s lt_s (inl same) = grind (arith, class-own)
      by s lt_s (inr apart) =
          subst (ShowsAs o put new s) (sym (class-other s lt_s apart))
          (shows-carries o q put new s carries-put (class_of o q s) (shows-values o q value new s (class_of o q s) (stored.others s lt_s apart) (shows.each s lt_s)))

  -- what the slot was that the put takes: free, or the session's own
  class-before : (x : Option Version) → q.held slot ≡ x → (class_of_version o q x ≡ Free) ⊎ ((k : Key) × (r : List ℕ) × (class_of_version o q x ≡ Waiting k r))
  class-before a at = grind (arith, free_slot-some)

  -- if the device stops it, the slot's begin is 0 already, or its words are as they were
  shows-stopped_put : (value new : ℕ → ℕ) → StopsPut q.layout value new slot → SlotsShow o q value → SlotsShow o (record q { failed = true }) new
  shows-stopped_put value new stopped shows = record { each = λ s lt_s. by s lt_s (cases_eq s slot) }
    where
      class-failed : (s : ℕ) → class_of o (record q { failed = true }) s ≡ class_of o q s
      class-failed s = class-same o q q.sessions q.held true q.hand (q.held s) (λ v at. wanted-commit o q q.sessions q.held true q.hand v (λ m by. refl))

      failed : SlotsShow o (record q { failed = true }) value
      failed = shows-failed o q value shows

      cleared : new (word_of q.layout slot 0) ≡ 0 → (class_of o q slot ≡ Free) ⊎ ((k : Key) × (r : List ℕ) × (class_of o q slot ≡ Waiting k r)) → SlotShows o (record q { failed = true }) new slot
      cleared begin (inl free) = subst (ShowsAs o (record q { failed = true }) new slot) (sym (class-failed slot ∙ free)) (inl (inl begin))
      cleared begin (inr (k, r, waiting)) =
          subst (ShowsAs o (record q { failed = true }) new slot) (sym (class-failed slot ∙ waiting)) record { begin = inl begin; end = λ up. absurd (true≢false up); spells = λ up. absurd (true≢false up) }

      on : (new (word_of q.layout slot 0) ≡ 0) ⊎ SameWords q.layout value new slot → SlotShows o (record q { failed = true }) new slot
      on (inl begin) = cleared begin (class-before (q.held slot) refl)
      on (inr same) = shows-values o (record q { failed = true }) value new slot (class_of o (record q { failed = true }) slot) same (failed.each slot lt)

      by : (s : ℕ) → s < q.layout.slots → (s ≡ slot) ⊎ (s ≢ slot) → SlotShows o (record q { failed = true }) new s
      by s lt_s (inl same) = subst (λ (x : ℕ). SlotShows o (record q { failed = true }) new x) (sym same) (on stopped.cleared)
      by s lt_s (inr apart) = shows-values o (record q { failed = true }) value new s (class_of o (record q { failed = true }) s) (stopped.others s lt_s apart) (failed.each s lt_s)

pub put-shows : (o : Origin) (q : State) (n : ℕ) (key : Key) (row : List ℕ) (slot : ℕ) (value new : ℕ → ℕ) → Keeps o q → refusal q (Put n key row) ≡ None → slot < q.layout.slots → held_after_put q n key slot ≡ Some (version_by key (BySession n))
    → StoresPut q.layout value new slot key row → SlotsShow o q value → SlotsShow o (next_state q (Put n key row)) new
put-shows o q n key row slot value new kept none lt held stored shows = shows-put o q n key row kept none slot lt held value new stored shows

pub put-stopped : (o : Origin) (q : State) (n : ℕ) (key : Key) (row : List ℕ) (slot : ℕ) (value new : ℕ → ℕ) → Keeps o q → refusal q (Put n key row) ≡ None → slot < q.layout.slots → held_after_put q n key slot ≡ Some (version_by key (BySession n))
    → StopsPut q.layout value new slot → SlotsShow o q value → SlotsShow o (record q { failed = true }) new
put-stopped o q n key row slot value new kept none lt held stopped shows = shows-stopped_put o q n key row kept none slot lt held value new stopped shows
