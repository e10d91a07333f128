-- A put: the slot that it takes is cleared, and its slot is filled.
use Rattle.std.proofs.Common.{◌≡◌, ◌≢◌, ◌⊎◌, inl, inr, ℕ, ◌/◌, ◌<◌, true, List, refl, sym, ◌∙◌, ap, subst, arith, Option, Some, None}
use Rattle.std.proofs.lemmas.Bool.{cases_eq}
use Rattle.base.specs.declared.key.Key.{Key}
use Rattle.base.specs.declared.step.Step.TheVariants.{Put}
use Rattle.base.specs.Commits.{with_write}
use Rattle.base.specs.Layout.{slot_start, slot_words}
use Rattle.base.specs.Lists.{replaced}
use Rattle.machine.specs.Machine.{State, Active, BySession, held_at, held_with, held_after_put, own_slot, free_slot, writes_of, begun_of, next_state, refusal}
use Rattle.pmem.specs.Device.{Device, stored, flushed, fenced}
use Rattle.pmem.specs.Words.{value_of, IsSettledAt}
use Rattle.pmem.specs.Trace.{Operation, after, Along, Runs}
use Rattle.pmem.proofs.Changes.{flushed-shrinks, fenced-shrinks, stored-value, fenced-settled_at}
use Rattle.version_slot.specs.declared.words.Version.{Version as Content}
use Rattle.version_slot.specs.Words.{Fits, link_number}
use Rattle.version_slot.specs.Operations.{clear_operations, fill_operations}
use Rattle.pmem.proofs.Traces.{along-append, along-last, after-append}
use Rattle.state_invariant.specs.Kept.{Origin, version_by}
use Rattle.state_invariant.specs.Links.{LinksTo, NamesNewest}
use Rattle.state_invariant.specs.Shown.{word_of, SameWords, StoresPut, StopsPut}
use Rattle.state_invariant.proofs.Lookups.{replaced-other}
use Rattle.state_invariant.proofs.sessions.Steps.{own_slot-none, free_slot-some, keeps-put}
use Rattle.state_invariant.proofs.steps.Kept.{keeps-failed}
use Rattle.state_invariant.proofs.puts.Shown.{put-shows, put-stopped}
use Rattle.state_invariant.proofs.puts.Links.{put-links}
use Rattle.device_invariant.specs.Upholds.{HoldsState, Upholds}
use Rattle.device_invariant.specs.Laws.{ChangesHolder, stays, taken}
use Rattle.device_invariant.proofs.Words.{within-slot}
use Rattle.device_invariant.proofs.moves.Stores.{others-stored}
use Rattle.device_invariant.proofs.puts.Slots.{IsUndrawn, holds-cleared, zero-facts}
use Rattle.device_invariant.proofs.covers.Ticks.{holds-flushed, holds-fenced, holds-fails}
use Rattle.device_invariant.proofs.moves.Holders.{holds-then, uncovered-hand}
use Rattle.simulation.specs.steps.Moves.{unless_own, put_operations, LinksNewest}
use Rattle.simulation.specs.steps.Laws.{PutsLead}
use Rattle.simulation.proofs.steps.Leading.{along-map, leads-run, leads-stopped}
use Rattle.simulation.proofs.steps.puts.Words.{IsFilling, ready-stored, filling-along, filled-value, filled-spells, filled-links}

-- ---- the slot of a put

module _ (q : State) (n : ℕ) (key : Key) (slot : ℕ) (lt : slot < q.layout.slots) (held : held_after_put q n key slot ≡ Some (version_by key (BySession n))) where
  -- the session has it for the key
  own-held : (s : ℕ) → own_slot q n key ≡ Some s → q.held slot ≡ Some (version_by key (BySession n))
  own-held s is = sym (ap (λ (x : Option ℕ). held_with q (version_by key (BySession n)) x slot) is) ∙ held

  -- or it is the first free one
  free-held : own_slot q n key ≡ None → (free_slot q ≡ Some slot) × (q.held slot ≡ None)
  free-held none = by (free_slot q) refl (sym (ap (λ (x : Option ℕ). held_with q (version_by key (BySession n)) x slot) none) ∙ held)
    where
      not_own : q.held slot ≡ Some (version_by key (BySession n)) → ⊥
      not_own is = own_slot-none q n key none slot lt is

      by_place : (f : ℕ) → free_slot q ≡ Some f → (slot ≡ f) ⊎ (slot ≢ f) → replaced f (Some (version_by key (BySession n))) q.held slot ≡ Some (version_by key (BySession n)) → (free_slot q ≡ Some slot) × (q.held slot ≡ None)
      by_place f is (inl same) at = (is ∙ ap (λ (i : ℕ). Some i) (sym same), ap q.held same ∙ (free_slot-some q f is).1)
      by_place f is (inr apart) at = absurd (not_own (sym (replaced-other f (Some (version_by key (BySession n))) q.held slot apart) ∙ at))

      by : (x : Option ℕ) → free_slot q ≡ x → held_at x (version_by key (BySession n)) q.held slot ≡ Some (version_by key (BySession n)) → (free_slot q ≡ Some slot) × (q.held slot ≡ None)
      by None is at = absurd (not_own at)
      by (Some f) is at = by_place f is (cases_eq slot f) at

  undrawn : IsUndrawn q slot
  undrawn = by (own_slot q n key) refl
    where
      by : (x : Option ℕ) → own_slot q n key ≡ x → IsUndrawn q slot
      by (Some s) is = inr (n, key, own-held s is)
      by None is = inl (free-held is).1

  changes : (device : Device) → IsSettledAt device (word_of q.layout slot 0) 0 → (s : ℕ) → ChangesHolder q (held_after_put q n key) device s
  changes device begin s = by (own_slot q n key) refl
    where
      other : own_slot q n key ≡ None → s ≢ slot → held_after_put q n key s ≡ q.held s
      other none apart =
          ap (λ (x : Option ℕ). held_with q (version_by key (BySession n)) x s) none ∙ ap (λ (x : Option ℕ). held_at x (version_by key (BySession n)) q.held s) (free-held none).0
          ∙ replaced-other slot (Some (version_by key (BySession n))) q.held s apart

      by_place : own_slot q n key ≡ None → (s ≡ slot) ⊎ (s ≢ slot) → ChangesHolder q (held_after_put q n key) device s
      by_place none (inl same) = subst (ChangesHolder q (held_after_put q n key) device) (sym same) (taken n key (free-held none).1 held begin)
      by_place none (inr apart) = stays (other none apart)

      by : (x : Option ℕ) → own_slot q n key ≡ x → ChangesHolder q (held_after_put q n key) device s
      by (Some own) is = stays (ap (λ (x : Option ℕ). held_with q (version_by key (BySession n)) x s) is)
      by None is = by_place is (cases_eq s slot)

-- ---- the put

module _ (o : Origin) (q : State) (n actor slot : ℕ) (v : Content) (old : Device) (none : refusal q (Put n v.key v.row) ≡ None) (lt : slot < q.layout.slots)
    (held : held_after_put q n v.key slot ≡ Some (version_by v.key (BySession n))) (u : Upholds o q old) where
  abbrev down : State
  down = record q { failed = true }

  abbrev clears : Option ℕ → List Operation
  clears x = unless_own x (clear_operations q.layout actor slot)

  abbrev fills : List Operation
  fills = fill_operations q.layout slot v

  low0 : 0 < slot_words q.layout.version
  low0 = within-slot q.layout.version 0 (omega arith)

  -- if the put stops, the failed state is upheld
  stopped : (device : Device) → HoldsState q device → StopsPut q.layout (value_of old) (value_of device) slot → Upholds o down device
  stopped device holds stops = record {
    keeps = keeps-failed o q u.keeps;
    shows = put-stopped o q n v.key v.row slot (value_of old) (value_of device) u.keeps none lt held stops u.shows;
    links = put-links.stopped o q n v.key v.row slot (value_of old) (value_of device) u.keeps none lt held stops u.links;
    holds = holds-fails q device holds;
  }

  while-filling : (device : Device) → IsFilling q old slot device → Upholds o down device
  while-filling device f = stopped device f.holds record { cleared = inl f.begin.holds; others = f.others }

  -- ---- the slot is cleared

  module _ (free : q.held slot ≡ None) where
    abbrev one : Device
    one = stored (slot_start q.layout slot) 0 old

    abbrev two : Device
    two = flushed actor (slot_start q.layout slot / 8) one

    abbrev three : Device
    three = fenced actor two

    one-is : one ≡ stored (word_of q.layout slot 0) 0 old
    one-is = let at : slot_start q.layout slot ≡ word_of q.layout slot 0 = omega arith in ap (λ (w : ℕ). stored w 0 old) at

    begin-is : slot_start q.layout slot ≡ word_of q.layout slot 0
    begin-is = omega arith

    others-one : (other : ℕ) → other < q.layout.slots → (other ≡ slot → ⊥) → SameWords q.layout (value_of old) (value_of one) other
    others-one other in_slots apart = record { each = λ w in_slot. (others-stored q.layout old one slot 0 0 low0 one-is other in_slots apart w in_slot).value }

    value-two : (word : ℕ) → value_of two word ≡ value_of one word
    value-two word = (flushed-shrinks {old = one} {new = two} actor (slot_start q.layout slot / 8) word refl).value

    value-three : (word : ℕ) → value_of three word ≡ value_of one word
    value-three word = (fenced-shrinks {old = two} {new = three} actor word refl).value ∙ value-two word

    zero-one : value_of one (word_of q.layout slot 0) ≡ 0
    zero-one = stored-value old one (word_of q.layout slot 0) 0 one-is

    holds-one : HoldsState q one
    holds-one = let zero = zero-facts o q u.keeps in holds-cleared q old one slot zero.0 zero.1 lt free one-is u.holds

    holds-two : HoldsState q two
    holds-two = holds-flushed q one two actor (slot_start q.layout slot / 8) refl holds-one

    filling-three : IsFilling q old slot three
    filling-three = record {
      holds = holds-fenced q two three actor refl holds-two;
      begin = subst (λ (w : ℕ). IsSettledAt three w 0) begin-is
          (fenced-settled_at two three actor (slot_start q.layout slot) 0 refl (ready-stored (slot_start q.layout slot) 0 actor old) (value-two (slot_start q.layout slot) ∙ stored-value old one (slot_start q.layout slot) 0 refl));
      others = λ other in_slots apart. record { each = λ w in_slot. value-three (word_of q.layout other w) ∙ (others-one other in_slots apart).each w in_slot };
    }

    cleared-along : Along (Upholds o down) (clear_operations q.layout actor slot) old
    cleared-along = (
      stopped old u.holds (record { cleared = inr (record { each = λ w in_slot. refl }); others = λ other in_slots apart. record { each = λ w in_slot. refl } }),
      (
        stopped one holds-one (record { cleared = inl zero-one; others = others-one }),
        (
          stopped two holds-two (record { cleared = inl (value-two (word_of q.layout slot 0) ∙ zero-one); others = λ other in_slots apart. record { each = λ w in_slot. value-two (word_of q.layout other w) ∙ (others-one other in_slots apart).each w in_slot } }),
          while-filling three filling-three,
        ),
      ),
    )

  -- ---- up to the filling

  started : (x : Option ℕ) → own_slot q n v.key ≡ x → Along (Upholds o down) (clears x) old × IsFilling q old slot (after (clears x) old)
  started (Some s) is =
      let f : IsFilling q old slot old = record {
        holds = u.holds;
        begin = (u.holds.slots.each slot lt).own n v.key (own-held q n v.key slot lt held s is);
        others = λ other in_slots apart. record { each = λ w in_slot. refl };
      } in
      (while-filling old f, f)
  started None is = let free = (free-held q n v.key slot lt held is).1 in (cleared-along free, filling-three free)

  abbrev start : Device
  start = after (clears (own_slot q n v.key)) old

  abbrev last : Device
  last = after fills start

  filled : Along (IsFilling q old slot) fills start
  filled = let zero = zero-facts o q u.keeps in filling-along q old slot v zero.0 zero.1 lt (undrawn q n v.key slot lt held) start (started (own_slot q n v.key) refl).1

  pub along : Along (Upholds o down) (put_operations q n actor slot v) old
  along = along-append (Upholds o down) (clears (own_slot q n v.key)) fills old (started (own_slot q n v.key) refl).0 (along-map (IsFilling q old slot) (Upholds o down) fills start while-filling filled)

  -- ---- the end

  module _ (fits : Fits q.layout v) (newest : LinksNewest q n v) where
    ends : IsFilling q old slot last
    ends = along-last (IsFilling q old slot) fills start filled

    stores : StoresPut q.layout (value_of old) (value_of last) slot v.key v.row
    stores = record {
      begin = ends.begin.holds;
      end = filled-value q.layout slot v start 1 (omega arith) (within-slot q.layout.version 1 (omega arith));
      spells = filled-spells q.layout slot v start fits lt;
      others = ends.others;
    }

    names : NamesNewest q (value_of last) slot n v.key
    names free t earlier is low there = subst (LinksTo q.layout (value_of last) slot) (ap link_number (newest free t earlier is low there)) (filled-links q.layout slot v start fits lt)

    upholds-last : Upholds o (next_state q (Put n v.key v.row)) last
    upholds-last = record {
      keeps = keeps-put o q n v.key v.row u.keeps none;
      shows = put-shows o q n v.key v.row slot (value_of old) (value_of last) u.keeps none lt held stores u.shows;
      links = put-links.stored o q n v.key v.row slot (value_of old) (value_of last) u.keeps none lt held stores names u.links;
      holds = holds-then q (replaced n (Some (Active (begun_of (q.sessions n)) (with_write v.key (Some v.row) (writes_of (q.sessions n))))) q.sessions) (held_after_put q n v.key) last
          (λ s in_slots. changes q n v.key slot lt held last ends.begin s) (uncovered-hand o q u.keeps) ends.holds;
    }

    pub upholds-then : (new : Device) → Runs (put_operations q n actor slot v) old new → Upholds o (next_state q (Put n v.key v.row)) new
    upholds-then new run = subst (Upholds o (next_state q (Put n v.key v.row))) (sym (run.made ∙ after-append (clears (own_slot q n v.key)) fills old)) upholds-last

pub puts-lead : PutsLead
puts-lead = record {
  stored = λ o q n actor slot v old new fits none lt held newest run u.
      leads-run o q (next_state q (Put n v.key v.row)) (put_operations q n actor slot v) old new (along o q n actor slot v old none lt held u) run (upholds-then o q n actor slot v old none lt held u fits newest new run);
  stopped = λ o q n actor slot v old new none lt held stop u. leads-stopped o q (put_operations q n actor slot v) old new (along o q n actor slot v old none lt held u) stop;
}
