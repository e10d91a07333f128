-- What a store into one slot makes of what a device holds.
use Rattle.std.proofs.Common.{◌≡◌, ◌≢◌, ◌⊎◌, inl, inr, ℕ, suc, zero, ◌+◌, ◌-◌, ◌<◌, Bool, true, false, cond, List, [], ◌∷◌, ◌++◌, take, refl, sym, ◌∙◌, ap, subst, arith, true≢false}
use Rattle.std.specs.Prelude.{Option, Some, None}
use Rattle.std.specs.List.{flat_map, range_with_len}
use Rattle.std.proofs.lemmas.Bool.{cases_eq}
use Rattle.base.specs.Commits.{Commit}
use Rattle.base.specs.Layout.{Layout, slot_words, version_lines}
use Rattle.base.specs.Records.{is_in}
use Rattle.machine.specs.Machine.{State, Hand}
use Rattle.pmem.specs.Device.{Device, stored, fenced}
use Rattle.pmem.specs.Words.{Survives, OnlyShrinks}
use Rattle.pmem.proofs.Changes.{stored-shrinks, stored-survives}
use Rattle.base.specs.Actors.{committer, collector}
use Rattle.log_area.proofs.UntouchedWords.{KeepsLog, keeps_log-stored, holds_record_kept, replacing_kept}
use Rattle.state_invariant.specs.Shown.{word_of}
use Rattle.device_invariant.specs.Slots.{SlotHolds, SlotsHold}
use Rattle.device_invariant.specs.Sweeps.{IsSweeping}
use Rattle.device_invariant.specs.Log.{Line, line_at, lines_at, lines_in, is_own, is_ended, AreReady, HoldsHand, writing_at}
use Rattle.device_invariant.specs.Upholds.{HoldsState}
use Rattle.device_invariant.proofs.Words.{within-slot, words-apart, words-apart_within}
use Rattle.device_invariant.proofs.moves.Shrinking.{ShrinksSlot, slot-shrink, follows-shrink}
use Rattle.device_invariant.proofs.collector.Fences.{behind-stored}

-- each slot but one only shrinks
abbrev pub ShrinksOthers : Layout → Device → Device → ℕ → Type 0
ShrinksOthers a old new but = (slot : ℕ) → slot < a.slots → slot ≢ but → ShrinksSlot a old new slot

-- a store into a slot
pub others-stored : (a : Layout) (old new : Device) (slot w value : ℕ) → w < slot_words a.version → new ≡ stored (word_of a slot w) value old → ShrinksOthers a old new slot
others-stored a old new slot w value low is other lt apart v in_slot = stored-shrinks (word_of a slot w) value (word_of a other v) is (words-apart a other slot v w apart in_slot low)

-- the slot's other words
pub rest-stored : (a : Layout) (old new : Device) (slot w value v : ℕ) → v ≢ w → new ≡ stored (word_of a slot w) value old → OnlyShrinks old new (word_of a slot v)
rest-stored a old new slot w value v apart is = stored-shrinks (word_of a slot w) value (word_of a slot v) is (words-apart_within a slot v w apart)

pub slots-but_one : (q : State) (old new : Device) (slot : ℕ) → ShrinksOthers q.layout old new slot → SlotHolds q new slot → SlotsHold q old → SlotsHold q new
slots-but_one q old new slot others this h = record { each = λ s lt. by_place s lt (cases_eq s slot) }
  where
    by_place : (s : ℕ) → s < q.layout.slots → (s ≡ slot) ⊎ (s ≢ slot) → SlotHolds q new s
    by_place s lt (inl is) = subst (SlotHolds q new) (sym is) this
    by_place s lt (inr apart) = slot-shrink q old new s (others s lt apart) (h.each s lt)

-- ---- the log

-- the pending batch touches no line of the slot
pub record IsUntouched (q : State) (commits : List Commit) (slot : ℕ) : Type 0 where
  pub not_own : is_own commits (q.held slot) ≡ false
  pub not_ended : is_ended q commits (q.held slot) ≡ false

-- the lines of the list are of other slots
abbrev AreApart : ℕ → List Line → Type 0
AreApart slot [] = Unit {0}
AreApart slot (line ∷ lines) = (line.slot ≢ slot) × AreApart slot lines

apart-append : (slot : ℕ) (xs ys : List Line) → AreApart slot xs → AreApart slot ys → AreApart slot (xs ++ ys)
apart-append slot [] ys a b = b
apart-append slot (x ∷ xs) ys a b = (a.0, apart-append slot xs ys a.1 b)

apart-take : (slot n : ℕ) (xs : List Line) → AreApart slot xs → AreApart slot (take n xs)
apart-take slot zero xs a = tt
apart-take slot (suc n) [] a = tt
apart-take slot (suc n) (x ∷ xs) a = (a.0, apart-take slot n xs a.1)

apart-parts : (slot k from n : ℕ) → k ≢ slot → AreApart slot (flat_map (λ part. line_at k part ∷ []) (range_with_len from n))
apart-parts slot k from zero apart = tt
apart-parts slot k from (suc n) apart = (apart, apart-parts slot k (from + 1) n apart)

apart-at : (q : State) (commits : List Commit) (slot k : ℕ) → IsUntouched q commits slot → AreApart slot (lines_at q commits k)
apart-at q commits slot k untouched = elim (cases_eq k slot) [
  | inl same ↦ subst (AreApart slot) (sym (ap (lines_at q commits) same ∙ none)) tt
  | inr apart ↦ by apart (is_own commits (q.held k)) (is_ended q commits (q.held k))
]
  where
    none : lines_at q commits slot ≡ []
    none = λ i. cond (untouched.not_own i) (flat_map (λ part. line_at slot part ∷ []) (range_with_len 0 (version_lines q.layout))) (cond (untouched.not_ended i) (line_at slot 0 ∷ []) [])

    by : k ≢ slot → (own ended : Bool) → AreApart slot (cond own (flat_map (λ part. line_at k part ∷ []) (range_with_len 0 (version_lines q.layout))) (cond ended (line_at k 0 ∷ []) []))
    by apart true ended = apart-parts slot k 0 (version_lines q.layout) apart
    by apart false true = (apart, tt)
    by apart false false = tt

apart-range : (q : State) (commits : List Commit) (slot from n : ℕ) → IsUntouched q commits slot → AreApart slot (flat_map (lines_at q commits) (range_with_len from n))
apart-range q commits slot from zero untouched = tt
apart-range q commits slot from (suc n) untouched =
    apart-append slot (lines_at q commits from) (flat_map (lines_at q commits) (range_with_len (from + 1) n)) (apart-at q commits slot from untouched) (apart-range q commits slot (from + 1) n untouched)

ready-others : (a : Layout) (old new : Device) (slot : ℕ) (lines : List Line) → ShrinksOthers a old new slot → AreApart slot lines → AreReady a old lines → AreReady a new lines
ready-others a old new slot [] others apart ready = tt
ready-others a old new slot (line ∷ lines) others apart ready =
    (record { each = λ w lt from to low. (others line.slot lt apart.0 w low).ready committer (ready.0.each w lt from to low) }, ready-others a old new slot lines others apart.1 ready.1)

-- a store into a slot that the batch doesn't touch
hand-others : (q : State) (old new : Device) (slot : ℕ) (hand : Option Hand) → new.words ≡ old.words → KeepsLog q.layout old new → ShrinksOthers q.layout old new slot
    → ((h : Hand) → hand ≡ Some h → IsUntouched q h.commits slot) → HoldsHand q old hand → HoldsHand q new hand
hand-others q old new slot None size log others untouched holds = holds_record_kept q.layout old new size log q.ruling holds
hand-others q old new slot (Some hand) size log others untouched (inl f) = inl record {
  chosen = f.chosen;
  within = f.within;
  follows = follows-shrink q hand old new size log f.follows;
  ready = ready-others q.layout old new slot (take (hand.ticks - 1) (lines_in q hand.commits)) others
      (apart-take slot (hand.ticks - 1) (lines_in q hand.commits) (apart-range q hand.commits slot 0 q.layout.slots (untouched hand refl))) f.ready;
}
hand-others q old new slot (Some hand) size log others untouched (inr r) = inr record {
  stage = r.stage;
  staged = r.staged;
  under_way = r.under_way;
  ticks = r.ticks;
  replaces = replacing_kept (writing_at q hand r.stage) old new size log q.ruling r.replaces;
  settled = record {
    own = λ s lt is. record { each = λ w low. (others s lt (λ same. true≢false (sym is ∙ ap (λ (k : ℕ). is_own hand.commits (q.held k)) same ∙ (untouched hand refl).not_own)) w low).settled ((r.settled.own s lt is).each w low) };
    ended = λ s lt is. (others s lt (λ same. true≢false (sym is ∙ ap (λ (k : ℕ). is_ended q hand.commits (q.held k)) same ∙ (untouched hand refl).not_ended)) 1 (within-slot q.layout.version 1 (omega arith))).settled (r.settled.ended s lt is);
  };
}

-- ---- the gaps

-- a begin or an end that is stored with a value of no gap stays out of them
sweeping-stored : (q : State) (old new : Device) (slot w value : ℕ) → w < slot_words q.layout.version → new ≡ stored (word_of q.layout slot w) value old → (w < 2 → is_in q.ruling.gaps value ≡ false)
    → IsSweeping q old → IsSweeping q new
sweeping-stored q old new slot w value low is out s = record {
  over = λ swept k v lt two. record { each = λ x there. by k v two x (Survives old (word_of q.layout k v) x) ((s.over swept k v lt two).each x) (stored-survives old new (word_of q.layout slot w) value is (word_of q.layout k v) x there) };
  under_way = λ unswept k lt before v two.
      record { each = λ x there. by k v two x (Survives (fenced collector old) (word_of q.layout k v) x) ((s.under_way unswept k lt before v two).each x) (behind-stored old new (word_of q.layout slot w) value is (word_of q.layout k v) x there) };
}
  where
    by_place : (k v : ℕ) → v < 2 → word_of q.layout k v ≡ word_of q.layout slot w → (k ≡ slot) ⊎ (k ≢ slot) → w < 2
    by_place k v two at (inl same) = grind (arith)
    by_place k v two at (inr apart) = absurd (words-apart q.layout k slot v w apart (within-slot q.layout.version v (omega (arith, two))) low at)

    by : (k v : ℕ) → v < 2 → (x : ℕ) (Was : Type 0) → (Was → is_in q.ruling.gaps x ≡ false) → ((word_of q.layout k v ≡ word_of q.layout slot w) × (x ≡ value)) ⊎ Was → is_in q.ruling.gaps x ≡ false
    by k v two x Was before (inl this) = ap (is_in q.ruling.gaps) this.1 ∙ out (by_place k v two this.0 (cases_eq k slot))
    by k v two x Was before (inr was) = before was

-- ---- one store

-- a value in a word of the slot: as begin or end one of no gap
pub holds-stored : (q : State) (old new : Device) (slot w value : ℕ) → w < slot_words q.layout.version → new ≡ stored (word_of q.layout slot w) value old → (w < 2 → is_in q.ruling.gaps value ≡ false)
    → ((h : Hand) → q.hand ≡ Some h → IsUntouched q h.commits slot) → SlotHolds q new slot → HoldsState q old → HoldsState q new
holds-stored q old new slot w value low is out untouched this h = record {
  slots = slots-but_one q old new slot others this h.slots;
  log = hand-others q old new slot q.hand (ap (λ (d : Device). d.words) is) (keeps_log-stored q.layout (word_of q.layout slot w) value (omega arith) is) others untouched h.log;
  sweeping = sweeping-stored q old new slot w value low is out h.sweeping;
}
  where
    others : ShrinksOthers q.layout old new slot
    others = others-stored q.layout old new slot w value low is
