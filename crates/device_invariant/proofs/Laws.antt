-- The laws: what a device upholds under each move.
use Rattle.std.proofs.Common.{◌≡◌, ◌≢◌, ◌⊎◌, inl, inr, ℕ, ◌+◌, ◌<◌, true, [], refl, sym, ◌∙◌, subst, arith, true≢false}
use Rattle.std.specs.Prelude.{Option, Some, None, IsTrue}
use Rattle.std.proofs.lemmas.Bool.{cases_eq}
use Rattle.base.specs.declared.key.Key.{Key}
use Rattle.base.specs.Layout.{slot_words}
use Rattle.base.specs.Records.{Record, is_committed}
use Rattle.machine.specs.Machine.{State, Hand, Version}
use Rattle.pmem.specs.Device.{Device, stored}
use Rattle.pmem.specs.Words.{Survives, value_of}
use Rattle.base.specs.Actors.{committer}
use Rattle.pmem.proofs.Changes.{flushed-shrinks, fenced-shrinks, failed-shrinks, stored-value}
use Rattle.state_invariant.specs.Kept.{Origin, Keeps, KeepsHand}
use Rattle.state_invariant.specs.Shown.{word_of, is_drawn_on, SlotsShow, SlotShows, ShowsAs, class_of_version}
use Rattle.state_invariant.proofs.covers.Kept.{keeps-covered}
use Rattle.state_invariant.proofs.covers.Shown.{shows-covered}
use Rattle.state_invariant.proofs.steps.Shown.{shows-hand, shows-failed}
use Rattle.state_invariant.proofs.covers.Links.{links-covered}
use Rattle.state_invariant.proofs.steps.Links.{links-failed, links-hand}
use Rattle.state_invariant.proofs.steps.Kept.{keeps-with_hand, keeps-failed}
use Rattle.device_invariant.specs.Slots.{NeverCounts, SlotHolds}
use Rattle.device_invariant.specs.Sweeps.{IsSweeping}
use Rattle.device_invariant.specs.Upholds.{HoldsState, Upholds}
use Rattle.device_invariant.specs.Laws.{FlushesKeep, FencesKeep, FailuresKeep, FailingKeeps, ChoosingKeeps, LineKeeps, LinesKeep, OperationKeeps, CoveringKeeps, GapsDrop, ClearingKeeps, FillingKeeps, RefillingKeeps, one_tick_on}
use Rattle.pmem.proofs.Changes.{each-weaken}
use Rattle.device_invariant.proofs.Words.{within-slot}
use Rattle.device_invariant.proofs.moves.Shrinking.{ShrinksSlots}
use Rattle.device_invariant.proofs.covers.Ticks.{holds-flushed, holds-fenced, holds-fails, holds-failed, holds-chosen, holds-line, holds-lines}
use Rattle.device_invariant.proofs.covers.Record.{holds-operation, holds-covered, operation-shrinks}
use Rattle.device_invariant.proofs.moves.Shown.{shows-shrink, shows-same}
use Rattle.device_invariant.proofs.puts.Slots.{holds-cleared, holds-filled, zero-facts}
use Rattle.device_invariant.proofs.moves.Stores.{others-stored}
use Rattle.device_invariant.proofs.moves.Links.{links-shrink, links-but_one}

-- ---- operations that store nothing

same-values : (q : State) (old new : Device) → ShrinksSlots q.layout old new → (slot w : ℕ) → slot < q.layout.slots → w < slot_words q.layout.version → value_of new (word_of q.layout slot w) ≡ value_of old (word_of q.layout slot w)
same-values q old new shrinks slot w lt low = (shrinks slot lt w low).value

pub flushes-keep : FlushesKeep
flushes-keep o q old new actor line is u = record {
  keeps = u.keeps;
  shows = shows-shrink o q old new (same-values q old new (λ slot lt w low. flushed-shrinks actor line (word_of q.layout slot w) is)) u.shows;
  links = links-shrink o q old new (same-values q old new (λ slot lt w low. flushed-shrinks actor line (word_of q.layout slot w) is)) u.links;
  holds = holds-flushed q old new actor line is u.holds;
}

pub fences-keep : FencesKeep
fences-keep o q old new actor is u = record {
  keeps = u.keeps;
  shows = shows-shrink o q old new (same-values q old new (λ slot lt w low. fenced-shrinks actor (word_of q.layout slot w) is)) u.shows;
  links = links-shrink o q old new (same-values q old new (λ slot lt w low. fenced-shrinks actor (word_of q.layout slot w) is)) u.links;
  holds = holds-fenced q old new actor is u.holds;
}

pub failures-keep : FailuresKeep
failures-keep o q old new is u = record {
  keeps = keeps-failed o q u.keeps;
  shows = shows-failed o q (value_of new) (shows-shrink o q old new (same-values q old new (λ slot lt w low. failed-shrinks (word_of q.layout slot w) is)) u.shows);
  links = links-failed o q (value_of new) (links-shrink o q old new (same-values q old new (λ slot lt w low. failed-shrinks (word_of q.layout slot w) is)) u.links);
  holds = holds-failed q old new is u.holds;
}

pub failing-keeps : FailingKeeps
failing-keeps o q device u = record { keeps = keeps-failed o q u.keeps; shows = shows-failed o q (value_of device) u.shows; links = links-failed o q (value_of device) u.links; holds = holds-fails q device u.holds }

-- ---- ticks

some-hand : (q : State) (hand : Hand) → KeepsHand q hand → (h : Hand) → Some hand ≡ Some h → KeepsHand q h
some-hand q hand k h is = let same : hand ≡ h = cc is in subst (KeepsHand q) same k

keeps-ticked : (o : Origin) (q : State) (hand : Hand) → q.hand ≡ Some hand → Keeps o q → Keeps o (one_tick_on q hand)
keeps-ticked o q hand in_hand kept =
    keeps-with_hand o q (Some (record hand { ticks = hand.ticks + 1 })) q.failed kept (some-hand q (record hand { ticks = hand.ticks + 1 }) (kept.numbers.hand hand in_hand))

upholds-ticked : (o : Origin) (q : State) (hand : Hand) (old new : Device) → q.hand ≡ Some hand → ShrinksSlots q.layout old new → HoldsState (one_tick_on q hand) new → Upholds o q old → Upholds o (one_tick_on q hand) new
upholds-ticked o q hand old new in_hand shrinks holds u = grind (arith, keeps-ticked o q hand in_hand, shows-hand, shows-shrink o q old new (same-values q old new shrinks) u.shows, same-values q old new shrinks, links-hand, links-shrink o q old new (same-values q old new shrinks) u.links)

pub choosing-keeps : ChoosingKeeps
choosing-keeps o q hand device none first k numbered u =
    let kept : Keeps o (record q { hand = Some hand }) = keeps-with_hand o q (Some hand) q.failed u.keeps (some-hand q hand k) in
    grind (arith, shows-hand, links-hand, holds-chosen)

pub line-keeps : LineKeeps
line-keeps o q hand i line old new orderly in_hand ticks more at is u =
    upholds-ticked o q hand old new in_hand (λ slot lt w low. flushed-shrinks committer _ (word_of q.layout slot w) is) (holds-line q hand i line old new orderly in_hand ticks more at is u.holds) u

pub lines-keep : LinesKeep
lines-keep o q hand old new in_hand ticks counted is u =
    upholds-ticked o q hand old new in_hand (λ slot lt w low. fenced-shrinks committer (word_of q.layout slot w) is) (holds-lines q hand old new in_hand ticks counted is u.holds) u

pub operation-keeps : OperationKeeps
operation-keeps o q hand stage old new orderly orderly' in_hand staged un more ticks is u =
    upholds-ticked o q hand old new in_hand (operation-shrinks q hand stage old new in_hand staged ticks is u.holds) (holds-operation q hand stage old new orderly orderly' in_hand staged un more ticks is u.holds) u

pub covering-keeps : CoveringKeeps
covering-keeps o q hand old new orderly orderly' up in_hand ticks is u =
    let shows = shows-shrink o q old new (same-values q old new (λ slot lt w low. fenced-shrinks committer (word_of q.layout slot w) is)) u.shows in
    record {
      keeps = keeps-covered o q hand u.keeps (u.keeps.numbers.hand hand in_hand);
      shows = shows-covered o q hand (value_of new) up u.keeps (u.keeps.numbers.hand hand in_hand) shows;
      links = links-covered o q hand u.keeps (u.keeps.numbers.hand hand in_hand) (value_of new) (links-shrink o q old new (same-values q old new (λ slot lt w low. fenced-shrinks committer (word_of q.layout slot w) is)) u.links);
      holds = holds-covered o q hand old new orderly orderly' in_hand ticks is u.keeps shows u.holds;
    }

-- ---- gaps

gap-slot : (q : State) (r : Record) (device : Device) (slot : ℕ) → slot < q.layout.slots → q.swept ≡ true → r.gaps ≡ [] → ((t : ℕ) → is_committed q.ruling t ≡ true → is_committed r t ≡ true) → IsSweeping q device → SlotHolds q device slot
    → SlotHolds (record q { ruling = r }) device slot
gap-slot q r device slot lt swept none still s h = record {
  begin_before = h.begin_before;
  end_before = h.end_before;
  free = λ held. elim (h.free held) [
    | inl begin ↦ inl record { each = λ x there. inl (never 0 x (omega arith) there (begin.each x there)) }
    | inr end ↦ inr (each-weaken still end)
  ];
  own = h.own;
  drawn = h.drawn;
  unstamped = h.unstamped;
  newest = λ key held.
      let live = h.newest key held in
      record { begin = live.begin; counted = still (value_of device (word_of q.layout slot 0)) live.counted; end = record { each = λ x there. by_case key x there (live.end.each x there) }; settled = live.settled };
  replaced = λ t key held none other. each-weaken still (h.replaced t key held none other);
}
  where
    never : (w x : ℕ) → w < 2 → Survives device (word_of q.layout slot w) x → NeverCounts q x → x ≡ 0
    never w x low there (inl zero) = zero
    never w x low there (inr gap) = absurd (true≢false (sym gap ∙ (s.over swept slot w lt low).each x there))

    by_case : (key : Key) (x : ℕ) → Survives device (word_of q.layout slot 1) x → NeverCounts q x ⊎ IsTrue (is_drawn_on q key x) → NeverCounts (record q { ruling = r }) x ⊎ IsTrue (is_drawn_on q key x)
    by_case key x there (inl is_never) = inl (inl (never 1 x (omega arith) there is_never))
    by_case key x there (inr drawn) = inr drawn

pub gaps-drop : GapsDrop
gaps-drop q r device swept none still s h = record { each = λ slot lt. gap-slot q r device slot lt swept none still s (h.each slot lt) }

-- ---- stores

-- the other slots show what they did, and this one something of its own
pub shows-but_one : (o : Origin) (q : State) (old new : Device) (slot w value : ℕ) → w < slot_words q.layout.version → new ≡ stored (word_of q.layout slot w) value old → SlotShows o q (value_of new) slot → SlotsShow o q (value_of old) → SlotsShow o q (value_of new)
shows-but_one o q old new slot w value low is this shows = record { each = λ s lt. by_place s lt (cases_eq s slot) }
  where
    by_place : (s : ℕ) → s < q.layout.slots → (s ≡ slot) ⊎ (s ≢ slot) → SlotShows o q (value_of new) s
    by_place s lt (inl same) = subst (SlotShows o q (value_of new)) (sym same) this
    by_place s lt (inr apart) = shows-same o q (value_of old) (value_of new) s (λ v in_slot. (others-stored q.layout old new slot w value low is s lt apart v in_slot).value) (shows.each s lt)

-- a free slot whose begin is 0 shows nothing
pub shows-free : (o : Origin) (q : State) (value : ℕ → ℕ) (slot : ℕ) → q.held slot ≡ None → value (word_of q.layout slot 0) ≡ 0 → SlotShows o q value slot
shows-free o q value slot free zero = subst (λ (v : Option Version). ShowsAs o q value slot (class_of_version o q v)) (sym free) (inl (inl zero))

pub clearing-keeps : ClearingKeeps
clearing-keeps o q slot old new lt free is u =
    let zero = zero-facts o q u.keeps in
    record {
      keeps = u.keeps;
      shows = shows-but_one o q old new slot 0 0 (within-slot q.layout.version 0 (omega arith)) is (shows-free o q (value_of new) slot free (stored-value old new (word_of q.layout slot 0) 0 is)) u.shows;
      links = links-but_one o q old new slot 0 0 (within-slot q.layout.version 0 (omega arith)) is (inl (omega arith)) u.links;
      holds = holds-cleared q old new slot zero.0 zero.1 lt free is u.holds;
    }

pub filling-keeps : FillingKeeps
filling-keeps o q slot w value old new lt free begin one low as_end is u =
    let zero = zero-facts o q u.keeps in
    grind (arith, holds-filled q old new slot w value zero.0 zero.1 lt (inl free) one low as_end begin is, shows-but_one o q old new slot w value low is, links-but_one o q old new slot w value low is (inr (inl free)))

pub refilling-keeps : RefillingKeeps
refilling-keeps o q slot n w value key old new lt held one low as_end is u =
    let down : State = record q { failed = true } in
    let zero = zero-facts o down u.keeps in
    grind (arith, holds-filled down old new slot w value zero.0 zero.1 lt (inr (n, key, held)) one low as_end, shows-but_one o down old new slot w value low is, links-but_one o down old new slot w value low is (inr (inr (refl, n, key, held))))
