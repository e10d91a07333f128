-- A stamp: its timestamp is stored in the begin of its commit's version, and in the end of the version that this ends.
use Rattle.std.proofs.Common.{◌≡◌, ◌≢◌, ◌⊎◌, inl, inr, ℕ, ◌+◌, ◌<◌, true, false, ◌&&◌, List, refl, sym, ◌∙◌, ap, subst, arith, true≢false}
use Rattle.std.specs.Prelude.{Option, Some, None, IsTrue, length, nat_eq}
use Rattle.std.specs.List.{list_any}
use Rattle.std.proofs.lemmas.Bool.{cases_eq}
use Rattle.std.proofs.lemmas.List.{take_all}
use Rattle.base.specs.declared.key.Key.{Key}
use Rattle.base.specs.declared.step.Step.TheVariants.{Stamp}
use Rattle.base.specs.Keys.{key_eq}
use Rattle.base.specs.Commits.{Commit, writes_key, last_writer}
use Rattle.base.specs.Layout.{slot_start, slot_words}
use Rattle.machine.specs.Machine.{State, Drawn, Hand, Version, BySession, ByCommit, drawn_at, is_stamped, counted, timestamp_of, stamped_write, next_state, refusal}
use Rattle.base.proofs.Keys.{key_eq-same}
use Rattle.pmem.specs.Device.{Device, stored}
use Rattle.pmem.specs.Words.{value_of, IsSettledAt, OnlyShrinks}
use Rattle.pmem.specs.Trace.{Operation, after, Along, Runs}
use Rattle.pmem.proofs.Changes.{shrinks_refl, shrinks_trans, stored-shrinks, stored-value, settled_at-shrinks, each-weaken}
use Rattle.version_slot.specs.Operations.{begin_operations, end_operations}
use Rattle.pmem.proofs.Traces.{along-append, along-last, after-append}
use Rattle.state_invariant.specs.Kept.{Origin, Keeps, version_by, last_of}
use Rattle.state_invariant.specs.Links.{SameRows}
use Rattle.state_invariant.specs.Shown.{word_of, is_drawn_on, is_key_stamped, StoresStamp}
use Rattle.state_invariant.proofs.Lookups.{lookup-of_write}
use Rattle.state_invariant.proofs.steps.Refusals.{allowed}
use Rattle.state_invariant.proofs.stamps.Kept.{with_stamp, stamp-facts, keeps-stamp, found-before, found-after, any-counted}
use Rattle.state_invariant.proofs.stamps.Shown.{stamp-shows}
use Rattle.state_invariant.proofs.steps.LinksStay.{links-stores}
use Rattle.state_invariant.proofs.steps.Links.{links-next}
use Rattle.device_invariant.specs.Slots.{newest_of, NeverCounts, IsLive, SlotHolds}
use Rattle.device_invariant.specs.Log.{HoldsHand}
use Rattle.device_invariant.specs.Upholds.{HoldsState, Upholds}
use Rattle.device_invariant.proofs.Words.{words-apart, within-slot}
use Rattle.device_invariant.proofs.PresentValues.{last-undrawn}
use Rattle.device_invariant.proofs.Laws.{failing-keeps}
use Rattle.device_invariant.proofs.stamps.Slots.{stamps-begin, stamps-end}
use Rattle.simulation.specs.steps.Moves.{IsSlotOf, stamp_operations}
use Rattle.simulation.specs.steps.Laws.{StampsLead}
use Rattle.simulation.proofs.steps.stamps.Writes.{IsNext, next-of, not_stamped, unstamped-before}
use Rattle.simulation.proofs.steps.Leading.{leads-run, leads-stopped}

-- ---- one store

-- the timestamp was stored in that word of the slot, if there is one
abbrev IsStoredAt : State → ℕ → ℕ → Option ℕ → Device → Device → Type 0
IsStoredAt q p t None old new = new ≡ old
IsStoredAt q p t (Some slot) old new = new ≡ stored (word_of q.layout slot p) t old

begin-stored : (q : State) (t : ℕ) (place : Option ℕ) (old : Device) → IsStoredAt q 0 t place old (after (begin_operations q.layout place t) old)
begin-stored q t None old = refl
begin-stored q t (Some slot) old = let at : slot_start q.layout slot ≡ slot_start q.layout slot + 0 = omega arith in ap (λ (w : ℕ). stored w t old) at

end-stored : (q : State) (t : ℕ) (place : Option ℕ) (old : Device) → IsStoredAt q 1 t place old (after (end_operations q.layout place t) old)
end-stored q t None old = refl
end-stored q t (Some slot) old = refl

module _ (o : Origin) (q : State) (kept : Keeps o q) (v : Version) (p t : ℕ) (low : p < slot_words q.layout.version) where
  -- the word has it
  has-it : (place : Option ℕ) (old new : Device) → IsSlotOf q v place → IsStoredAt q p t place old new → (slot : ℕ) → slot < q.layout.slots → q.held slot ≡ Some v → value_of new (word_of q.layout slot p) ≡ t
  has-it None old new none is slot lt held = absurd (none slot lt held)
  has-it (Some s) old new its is slot lt held =
      let same : slot ≡ s = kept.owns.once slot s v lt its.0 held its.1 in
      ap (λ (i : ℕ). value_of new (word_of q.layout i p)) same ∙ stored-value old new (word_of q.layout s p) t is

  -- each other word only shrinks
  others : (place : Option ℕ) (old new : Device) → IsSlotOf q v place → IsStoredAt q p t place old new → (slot w : ℕ) → w < slot_words q.layout.version → (q.held slot ≡ Some v → w ≡ p → ⊥) → OnlyShrinks old new (word_of q.layout slot w)
  others None old new none is slot w in_slot apart = subst (λ (d : Device). OnlyShrinks old d (word_of q.layout slot w)) (sym is) (shrinks_refl old (word_of q.layout slot w))
  others (Some s) old new its is slot w in_slot apart = stored-shrinks (word_of q.layout s p) t (word_of q.layout slot w) is (by (cases_eq slot s))
    where
      by : (slot ≡ s) ⊎ (slot ≢ s) → word_of q.layout slot w ≢ word_of q.layout s p
      by (inr other) = words-apart q.layout slot s w p other in_slot low
      by (inl same) = λ e.
          let here : word_of q.layout s w ≡ word_of q.layout s p = ap (λ (i : ℕ). word_of q.layout i w) (sym same) ∙ e in
          apart (ap q.held same ∙ its.1) (omega (arith, here))

-- ---- the stamp

module _ (o : Origin) (q : State) (n : ℕ) (key : Key) (row : Option (List ℕ)) (own ended : Option ℕ) (none : refusal q (Stamp n) ≡ None) (write : stamped_write q n ≡ Some (key, row))
    (owns : IsSlotOf q (version_by key (ByCommit (timestamp_of (q.sessions n)))) own) (ends : IsSlotOf q (newest_of q key) ended) (old : Device) (u : Upholds o q old) where
  abbrev t : ℕ
  t = timestamp_of (q.sessions n)

  abbrev down : State
  down = record q { failed = true }

  abbrev begins : List Operation
  begins = begin_operations q.layout own t

  abbrev finishes : List Operation
  finishes = end_operations q.layout ended t

  next : IsNext q t key row
  next = next-of q n key row write

  unstamped : is_key_stamped next.drawn key ≡ false
  unstamped = not_stamped o q u.keeps t key row next

  writes : writes_key key next.drawn.commit ≡ true
  writes = lookup-of_write key row next.drawn.commit.writes next.drawn.stamped next.at

  begin-along : (place : Option ℕ) (device : Device) → IsSlotOf q (version_by key (ByCommit t)) place → Upholds o down device → Along (Upholds o down) (begin_operations q.layout place t) device
  begin-along None device its up = up
  begin-along (Some slot) device its up = (up, stamps-begin o down slot t key next.drawn device (after (begin_operations q.layout (Some slot) t) device) refl its.0 its.1 next.found unstamped (begin-stored q t (Some slot) device) up)

  end-along : (place : Option ℕ) (device : Device) → IsSlotOf q (newest_of q key) place → Upholds o down device → Along (Upholds o down) (end_operations q.layout place t) device
  end-along None device its up = up
  end-along (Some slot) device its up = (up, stamps-end o down slot t key next.drawn device (after (end_operations q.layout (Some slot) t) device) its.0 its.1 next.found writes unstamped (end-stored q t (Some slot) device) up)

  abbrev mid : Device
  mid = after begins old

  abbrev last : Device
  last = after finishes mid

  pub along : Along (Upholds o down) (stamp_operations q own ended t) old
  along =
      let first = begin-along own old owns (failing-keeps o q old u) in
      along-append (Upholds o down) begins finishes old first (end-along ended mid ends (along-last (Upholds o down) begins old first))

  -- ---- what the words have then

  low0 : 0 < slot_words q.layout.version
  low0 = within-slot q.layout.version 0 (omega arith)

  low1 : 1 < slot_words q.layout.version
  low1 = within-slot q.layout.version 1 (omega arith)

  -- no slot is held by both versions
  not-both : (slot : ℕ) → q.held slot ≡ Some (version_by key (ByCommit t)) → q.held slot ≡ Some (newest_of q key) → ⊥
  not-both slot a b =
      let both : Some (version_by key (ByCommit t)) ≡ Some (newest_of q key) = sym a ∙ b in
      let one : version_by key (ByCommit t) ≡ newest_of q key = cc both in
      let writers : ByCommit t ≡ ByCommit (last_writer q.history key) = ap (λ (v : Version). v.writer) one in
      let same : t ≡ last_writer q.history key = cc writers in
      let clash : ◌≡◌ {A = Option Drawn} None (Some next.drawn) = sym (last-undrawn o q u.keeps key) ∙ ap (drawn_at q) (sym same) ∙ next.found in
      cc clash

  shrinks-first : (slot w : ℕ) → w < slot_words q.layout.version → (q.held slot ≡ Some (version_by key (ByCommit t)) → w ≡ 0 → ⊥) → OnlyShrinks old mid (word_of q.layout slot w)
  shrinks-first = others o q u.keeps (version_by key (ByCommit t)) 0 t low0 own old mid owns (begin-stored q t own old)

  shrinks-second : (slot w : ℕ) → w < slot_words q.layout.version → (q.held slot ≡ Some (newest_of q key) → w ≡ 1 → ⊥) → OnlyShrinks mid last (word_of q.layout slot w)
  shrinks-second = others o q u.keeps (newest_of q key) 1 t low1 ended mid last ends (end-stored q t ended mid)

  newest-is : (slot : ℕ) → q.held slot ≡ Some (last_of q (length q.history) key) → q.held slot ≡ Some (newest_of q key)
  newest-is slot held = held ∙ ap (λ (cs : List Commit). Some (version_by key (ByCommit (last_writer cs key)))) (take_all (length q.history) q.history (omega arith))

  last-is : (slot : ℕ) → q.held slot ≡ Some (newest_of q key) → q.held slot ≡ Some (last_of q (length q.history) key)
  last-is slot held = held ∙ ap (λ (cs : List Commit). Some (version_by key (ByCommit (last_writer cs key)))) (sym (take_all (length q.history) q.history (omega arith)))

  stores : StoresStamp q (value_of old) (value_of last) t key
  stores = record {
    begins = λ slot lt held. record {
      begin = (shrinks-second slot 0 low0 (λ h e. cc e)).value ∙ has-it o q u.keeps (version_by key (ByCommit t)) 0 t low0 own old mid owns (begin-stored q t own old) slot lt held;
      others = λ w in_slot apart. (shrinks-second slot w in_slot (λ h e. not-both slot held h)).value ∙ (shrinks-first slot w in_slot (λ h e. apart e)).value;
    };
    ends = λ slot lt held. record {
      end = has-it o q u.keeps (newest_of q key) 1 t low1 ended mid last ends (end-stored q t ended mid) slot lt (newest-is slot held);
      others = λ w in_slot apart. (shrinks-second slot w in_slot (λ h e. apart e)).value ∙ (shrinks-first slot w in_slot (λ h e. not-both slot h (newest-is slot held))).value;
    };
    others = λ slot lt not_own not_last. record { each = λ w in_slot. (shrinks-second slot w in_slot (λ h e. not_last (last-is slot h))).value ∙ (shrinks-first slot w in_slot (λ h e. not_own h)).value };
  }

  -- ---- what holds then

  abbrev then : State
  then = with_stamp q t

  unfinished : list_any (λ d. nat_eq d.commit.timestamp t && is_stamped d) q.drawn ≡ false
  unfinished = (stamp-facts q n none).2

  holds-down : HoldsState down last
  holds-down = subst (HoldsState down) (after-append begins finishes old) (along-last (Upholds o down) (stamp_operations q own ended t) old along).holds

  drawn-still : (k : Key) (x : ℕ) → is_drawn_on q k x ≡ true → is_drawn_on then k x ≡ true
  drawn-still k x drawn = any-counted t (λ (c : Commit). nat_eq c.timestamp x && writes_key k c) q.drawn ∙ drawn

  live : (slot : ℕ) (k : Key) → IsLive down last slot k → IsLive then last slot k
  live slot k l = record { begin = l.begin; counted = l.counted; end = each-weaken end l.end; settled = l.settled }
    where
      end : (x : ℕ) → NeverCounts q x ⊎ IsTrue (is_drawn_on q k x) → NeverCounts then x ⊎ IsTrue (is_drawn_on then k x)
      end x (inl never) = inl never
      end x (inr drawn) = inr (drawn-still k x drawn)

  undrawn : (v : ℕ) (x : Option Drawn) → drawn_at q v ≡ x → drawn_at then v ≡ None → x ≡ None
  undrawn v None is gone = refl
  undrawn v (Some e) is gone = let clash : ◌≡◌ {A = Option Drawn} None (Some (counted t e)) = sym gone ∙ found-after o q t unfinished u.keeps v e is in absurd (cc clash)

  settled : (slot v : ℕ) (k : Key) (d : Drawn) → slot < q.layout.slots → q.held slot ≡ Some (version_by k (ByCommit v)) → drawn_at then v ≡ Some d → is_key_stamped d k ≡ false → IsSettledAt last (word_of q.layout slot 0) 0
  settled slot v k d lt held found not_yet =
      let before = found-before o q t unfinished u.keeps v d found in
      let facts = unstamped-before o q u.keeps t key row next v before.0 k before.1 (ap (λ (x : Drawn). is_key_stamped x k) (sym before.2) ∙ not_yet) in
      settled_at-shrinks (shrinks_trans (shrinks-first slot 0 low0 (λ h e. other h facts.1)) (shrinks-second slot 0 low0 (λ h e. cc e)))
      ((u.holds.slots.each slot lt).unstamped v k before.0 held before.1 facts.0 (allowed q (Stamp n) none).up)
    where
      other : q.held slot ≡ Some (version_by key (ByCommit t)) → (v ≡ t → key_eq key k ≡ false) → ⊥
      other h apart =
          let both : Some (version_by k (ByCommit v)) ≡ Some (version_by key (ByCommit t)) = sym held ∙ h in
          let one : version_by k (ByCommit v) ≡ version_by key (ByCommit t) = cc both in
          let writers : ByCommit v ≡ ByCommit t = ap (λ (v : Version). v.writer) one in
          let same : v ≡ t = cc writers in
          true≢false (sym (key_eq-same key) ∙ ap (key_eq key) (sym (ap (λ (v : Version). v.key) one)) ∙ apart same)

  slot-then : (slot : ℕ) → slot < q.layout.slots → SlotHolds down last slot → SlotHolds then last slot
  slot-then slot lt h = record {
    begin_before = h.begin_before;
    end_before = h.end_before;
    free = h.free;
    own = h.own;
    drawn = λ v k d held found. let before = found-before o q t unfinished u.keeps v d found in h.drawn v k before.0 held before.1;
    unstamped = λ v k d held found not_yet up. settled slot v k d lt held found not_yet;
    newest = λ k held. live slot k (h.newest k held);
    replaced = λ v k held gone apart. h.replaced v k held (undrawn v (drawn_at q v) refl gone) apart;
  }

  hand-then : (hand : Option Hand) → HoldsHand down last hand → HoldsHand then last hand
  hand-then None holds = holds
  hand-then (Some hand) (inl f) = inl record { chosen = f.chosen; within = f.within; follows = f.follows; ready = f.ready }
  hand-then (Some hand) (inr r) = inr record { stage = r.stage; staged = r.staged; under_way = r.under_way; ticks = r.ticks; replaces = r.replaces; settled = record { own = r.settled.own; ended = r.settled.ended } }

  holds-then : HoldsState then last
  holds-then = record {
    slots = record { each = λ slot lt. slot-then slot lt (holds-down.slots.each slot lt) };
    log = hand-then q.hand holds-down.log;
    sweeping = record { over = holds-down.sweeping.over; under_way = holds-down.sweeping.under_way };
  }

  same-rows : (slot : ℕ) (v : Version) → slot < q.layout.slots → q.held slot ≡ Some v → SameRows q.layout (value_of old) (value_of last) slot ⊎ ((q.failed ≡ true) × (m : ℕ) × (v.writer ≡ BySession m))
  same-rows slot v lt held = inl record {
    each = λ w two in_slot. (shrinks-second slot w in_slot (λ h e. omega (arith, e, two))).value ∙ (shrinks-first slot w in_slot (λ h e. omega (arith, e, two))).value;
  }

  upholds-last : Upholds o then last
  upholds-last = record {
    keeps = keeps-stamp o q n u.keeps none;
    shows = stamp-shows o q n key row (value_of old) (value_of last) u.keeps none write stores u.shows;
    links = links-next o q (Stamp n) (value_of last) u.keeps none refl (links-stores o q (value_of old) (value_of last) same-rows u.links);
    holds = holds-then;
  }

  pub upholds-then : (new : Device) → Runs (stamp_operations q own ended t) old new → Upholds o (next_state q (Stamp n)) new
  upholds-then new run = subst (Upholds o then) (sym (run.made ∙ after-append begins finishes old)) upholds-last

pub stamps-lead : StampsLead
stamps-lead = record {
  stored = λ o q n key row own ended old new none write owns ends run u.
      leads-run o q (next_state q (Stamp n)) (stamp_operations q own ended (timestamp_of (q.sessions n))) old new (along o q n key row own ended none write owns ends old u) run (upholds-then o q n key row own ended none write owns ends old u new run);
  stopped = λ o q n key row own ended old new none write owns ends stop u.
      leads-stopped o q (stamp_operations q own ended (timestamp_of (q.sessions n))) old new (along o q n key row own ended none write owns ends old u) stop;
}
