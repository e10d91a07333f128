-- What each tick of a cycle makes of what a device holds.
use Rattle.std.proofs.Common.{◌≡◌, inl, inr, ℕ, suc, zero, ◌+◌, ◌-◌, ◌*◌, ◌/◌, ◌^◌, ◌<◌, ◌≤◌, Bool, true, false, cond, List, [], ◌∷◌, ◌++◌, take, length, refl, sym, ◌∙◌, ap, subst, arith, true≢false}
use Rattle.std.specs.Prelude.{Option, Some, None, slice_get}
use Rattle.std.specs.List.{flat_map, range_with_len}
use Rattle.std.proofs.lemmas.Bool.{cases_lt}
use Rattle.std.proofs.lemmas.List.{take_all}
use Rattle.base.specs.Commits.{Commit}
use Rattle.base.specs.Layout.{Layout, slot_words, total_words, version_lines}
use Rattle.machine.specs.Machine.{State, Hand, lines_of}
use Rattle.pmem.specs.Device.{Device, IsOrderly, flushed, fenced, failed}
use Rattle.pmem.specs.Words.{OnlyShrinks, IsSettled}
use Rattle.pmem.proofs.Changes.{flushed-shrinks, fenced-shrinks, failed-shrinks, flushed-ready, fenced-settles}
use Rattle.log_area.specs.declared.stage.WritingStage.TheVariants.{StoreBody}
use Rattle.base.specs.Actors.{committer}
use Rattle.base.proofs.Layouts.{line-words, lines-words, slot_whole}
use Rattle.log_area.proofs.UntouchedWords.{KeepsLog, keeps_log-flushed, keeps_log-fenced, keeps_log-failed}
use Rattle.log_area.proofs.Replacing.{replacing_begun}
use Rattle.state_invariant.specs.Kept.{Origin, Keeps, KeepsHand}
use Rattle.state_invariant.specs.Shown.{word_of}
use Rattle.device_invariant.specs.Slots.{SlotHolds, SlotsHold}
use Rattle.device_invariant.specs.Sweeps.{IsSweeping}
use Rattle.device_invariant.specs.Log.{Line, line_at, line_number, lines_at, lines_in, is_own, is_ended, IsLineReady, AreReady, IsBatchSettled, IsFlushing, IsRecording, HoldsHand}
use Rattle.device_invariant.specs.Upholds.{HoldsState}
use Rattle.device_invariant.proofs.Words.{word-within}
use Rattle.device_invariant.proofs.moves.Shrinking.{slots-shrink, sweeping-shrink, hand-shrink}
use Rattle.device_invariant.proofs.collector.Fences.{ShrinksBehind, behind-flushed, behind-fenced, behind-failed}

-- ---- operations that store nothing

-- a flush, a fence and a failure
pub holds-shrink : (q : State) (old new : Device) → new.words ≡ old.words → ((word : ℕ) → OnlyShrinks old new word) → ((word : ℕ) → ShrinksBehind old new word) → KeepsLog q.layout old new → HoldsState q old → HoldsState q new
holds-shrink q old new size shrinks behind log h = record {
  slots = slots-shrink q old new (λ slot lt w low. shrinks (word_of q.layout slot w)) h.slots;
  log = hand-shrink q old new q.hand size log (λ slot lt w low. shrinks (word_of q.layout slot w)) h.log;
  sweeping = sweeping-shrink q old new (λ slot lt w low. shrinks (word_of q.layout slot w)) (λ slot w lt low. behind (word_of q.layout slot w)) h.sweeping;
}

pub holds-flushed : (q : State) (old new : Device) (actor line : ℕ) → new ≡ flushed actor line old → HoldsState q old → HoldsState q new
holds-flushed q old new actor line is = holds-shrink q old new (ap (λ (d : Device). d.words) is) (λ word. flushed-shrinks actor line word is) (λ word. behind-flushed old new actor line word is) (keeps_log-flushed q.layout actor line is)

pub holds-fenced : (q : State) (old new : Device) (actor : ℕ) → new ≡ fenced actor old → HoldsState q old → HoldsState q new
holds-fenced q old new actor is = holds-shrink q old new (ap (λ (d : Device). d.words) is) (λ word. fenced-shrinks actor word is) (λ word. behind-fenced old new actor word is) (keeps_log-fenced q.layout actor is)

-- ---- the state fails

slot-fails : (q : State) (device : Device) (slot : ℕ) → SlotHolds q device slot → SlotHolds (record q { failed = true }) device slot
slot-fails q device slot h = grind (arith, true≢false)

hand-fails : (q : State) (device : Device) (hand : Option Hand) → HoldsHand q device hand → HoldsHand (record q { failed = true }) device hand
hand-fails q device a holds = grind (arith)

pub holds-fails : (q : State) (device : Device) → HoldsState q device → HoldsState (record q { failed = true }) device
holds-fails q device h = record {
  slots = record { each = λ slot lt. slot-fails q device slot (h.slots.each slot lt) };
  log = hand-fails q device q.hand h.log;
  sweeping = record { over = h.sweeping.over; under_way = h.sweeping.under_way };
}

pub holds-failed : (q : State) (old new : Device) → new ≡ failed old → HoldsState q old → HoldsState (record q { failed = true }) new
holds-failed q old new is h =
    holds-fails q new (holds-shrink q old new (ap (λ (d : Device). d.words) is) (λ word. failed-shrinks word is) (λ word. behind-failed old new word is) (keeps_log-failed q.layout is) h)

-- ---- another pending batch

slot-with_hand : (q : State) (hand : Option Hand) (device : Device) (slot : ℕ) → SlotHolds q device slot → SlotHolds (record q { hand = hand }) device slot
slot-with_hand q hand device slot h = grind arith

pub with_hand : (q : State) (hand : Option Hand) (device : Device) → SlotsHold q device → IsSweeping q device → HoldsHand (record q { hand = hand }) device hand → HoldsState (record q { hand = hand }) device
with_hand q hand device slots sweeping log = record {
  slots = record { each = λ slot lt. slot-with_hand q hand device slot (slots.each slot lt) };
  log = log;
  sweeping = record { over = sweeping.over; under_way = sweeping.under_way };
}

-- the first tick: the batch is chosen
pub holds-chosen : (o : Origin) (q : State) (hand : Hand) (device : Device) → q.hand ≡ None → hand.ticks ≡ 1 → Keeps o (record q { hand = Some hand }) → hand.target.gate < 2 ^ 62 → HoldsState q device
    → HoldsState (record q { hand = Some hand }) device
holds-chosen o q hand device none first kept numbered h =
    with_hand q (Some hand) device h.slots h.sweeping (inl record {
      chosen = omega (arith, first);
      within = omega (arith, first);
      follows = record {
        holds = subst (HoldsHand q device) none h.log;
        next = k.gate;
        fits = record { limits = kept.numbers.layout; well_formed = k.formed; numbered = omega (arith, k.gate); in_range = numbered };
      };
      ready = subst (λ (n : ℕ). AreReady q.layout device (take (n - 1) (lines_in q hand.commits))) (sym first) tt;
    })
  where
    k : KeepsHand (record q { hand = Some hand }) hand
    k = kept.numbers.hand hand refl

-- ---- the flush of a line

ready-more : (a : Layout) (device : Device) (lines : List Line) (i : ℕ) (line : Line) → slice_get lines i ≡ Some line → AreReady a device (take i lines) → IsLineReady a device line → AreReady a device (take (suc i) lines)
ready-more a device [] i line at ready this = absurd (cc at)
ready-more a device (x ∷ lines) zero line at ready this = let same : x ≡ line = cc at in (subst (IsLineReady a device) (sym same) this, tt)
ready-more a device (x ∷ lines) (suc i) line at ready this = (ready.0, ready-more a device lines i line at ready.1 this)

-- each word of a line of a slot has the line's number
line-word : (a : Layout) (line : Line) (w : ℕ) → 8 * line.part ≤ w → w < 8 * line.part + 8 → word_of a line.slot w / 8 ≡ line_number a line
line-word a line w from to = omega (arith, slot_whole a line.slot, from, to)

pub line-flushed : (a : Layout) (old new : Device) (line : Line) → IsOrderly old → old.words ≡ total_words a → new ≡ flushed committer (line_number a line) old → IsLineReady a new line
line-flushed a old new line orderly size is = grind (arith, flushed-ready, word-within, line-word)

-- the next line is flushed
pub holds-line : (q : State) (hand : Hand) (i : ℕ) (line : Line) (old new : Device) → IsOrderly old → q.hand ≡ Some hand → hand.ticks ≡ i + 1 → i < lines_of q hand.commits → slice_get (lines_in q hand.commits) i ≡ Some line
    → new ≡ flushed committer (line_number q.layout line) old → HoldsState q old → HoldsState (record q { hand = Some (record hand { ticks = hand.ticks + 1 }) }) new
holds-line q hand i line old new orderly in_hand ticks more at is h =
    let next : Hand = record hand { ticks = hand.ticks + 1 } in
    let after = holds-flushed q old new committer (line_number q.layout line) is h in
    with_hand q (Some next) new after.slots after.sweeping (inl (by_stage (subst (HoldsHand q new) in_hand after.log) (subst (HoldsHand q old) in_hand h.log)))
  where
    by_stage : HoldsHand q new (Some hand) → HoldsHand q old (Some hand) → IsFlushing (record q { hand = Some (record hand { ticks = hand.ticks + 1 }) }) (record hand { ticks = hand.ticks + 1 }) new
    by_stage (inl f) before = record {
      chosen = omega arith;
      within = omega (arith, ticks, more);
      follows = f.follows;
      ready =
          let was : AreReady q.layout new (take i (lines_in q hand.commits)) = (let less : hand.ticks - 1 ≡ i = omega (arith, ticks) in subst (λ (n : ℕ). AreReady q.layout new (take n (lines_in q hand.commits))) less f.ready) in
          let now : suc i ≡ hand.ticks + 1 - 1 = omega (arith, ticks) in
          subst (λ (n : ℕ). AreReady q.layout new (take n (lines_in q hand.commits))) now
          (ready-more q.layout new (lines_in q hand.commits) i line at was (line-flushed q.layout old new line orderly size is));
    }
      where
        size : old.words ≡ total_words q.layout
        size = sym (ap (λ (d : Device). d.words) is) ∙ f.follows.holds.stands.size
    by_stage (inr r) before = absurd (omega (arith, ticks, more, r.ticks))

-- ---- the fence of the lines

ready-part : (a : Layout) (device : Device) (xs ys : List Line) → AreReady a device (xs ++ ys) → AreReady a device xs × AreReady a device ys
ready-part a device [] ys ready = (tt, ready)
ready-part a device (x ∷ xs) ys ready = let rest = ready-part a device xs ys ready.1 in ((ready.0, rest.0), rest.1)

ready-at : (a : Layout) (device : Device) (f : ℕ → List Line) (from n k : ℕ) → AreReady a device (flat_map f (range_with_len from n)) → from ≤ k → k < from + n → AreReady a device (f k)
ready-at a device f from zero k ready le lt = absurd (omega (arith, le, lt))
ready-at a device f from (suc n) k ready le lt = grind (arith, ready-part a device (f from) (flat_map f (range_with_len (from + 1) n)) ready, cases_lt from k, ready-at a device f (from + 1) n k)

module _ (q : State) (commits : List Commit) (old new : Device) (is : new ≡ fenced committer old) (ready : AreReady q.layout old (lines_in q commits)) where
  here : (slot : ℕ) → slot < q.layout.slots → AreReady q.layout old (lines_at q commits slot)
  here slot lt = ready-at q.layout old (lines_at q commits) 0 q.layout.slots slot ready (omega arith) (omega (arith, lt))

  settles : (slot w : ℕ) (line : Line) → slot < q.layout.slots → w < slot_words q.layout.version → line.slot ≡ slot → 8 * line.part ≤ w → w < 8 * line.part + 8 → IsLineReady q.layout old line → IsSettled new (word_of q.layout slot w)
  settles slot w line lt low same from to waits = grind (arith, fenced-settles)

  pub lines-settled : IsBatchSettled q commits new
  lines-settled = record {
    own = λ slot lt own. record { each = λ w low. whole slot w lt low own };
    ended = λ slot lt ended. by_own slot lt ended (is_own commits (q.held slot)) refl;
  }
    where
      whole : (slot w : ℕ) → slot < q.layout.slots → w < slot_words q.layout.version → is_own commits (q.held slot) ≡ true → IsSettled new (word_of q.layout slot w)
      whole slot w lt low own =
          let lines = subst (λ (b : Bool). AreReady q.layout old (cond b (flat_map (λ part. line_at slot part ∷ []) (range_with_len 0 (version_lines q.layout))) (cond (is_ended q commits (q.held slot)) (line_at slot 0 ∷ []) []))) own (here slot lt) in
          let part = ready-at q.layout old (λ part. line_at slot part ∷ []) 0 (version_lines q.layout) (w / 8) lines (omega arith) (omega (arith, low, lines-words q.layout)) in
          settles slot w (line_at slot (w / 8)) lt low refl (omega arith) (omega arith) part.0

      by_own : (slot : ℕ) → slot < q.layout.slots → is_ended q commits (q.held slot) ≡ true → (b : Bool) → is_own commits (q.held slot) ≡ b → IsSettled new (word_of q.layout slot 1)
      by_own slot lt ended true own = whole slot 1 lt (omega (arith, line-words q.layout.version)) own
      by_own slot lt ended false own =
          let lines = subst (λ (b : Bool). AreReady q.layout old (cond b (flat_map (λ part. line_at slot part ∷ []) (range_with_len 0 (version_lines q.layout))) (cond (is_ended q commits (q.held slot)) (line_at slot 0 ∷ []) []))) own (here slot lt) in
          let first = subst (λ (b : Bool). AreReady q.layout old (cond b (line_at slot 0 ∷ []) [])) ended lines in
          settles slot 1 (line_at slot 0) lt (omega (arith, line-words q.layout.version)) refl (omega arith) (omega arith) first.0

-- all lines are flushed, and now they persist
pub holds-lines : (q : State) (hand : Hand) (old new : Device) → q.hand ≡ Some hand → hand.ticks ≡ lines_of q hand.commits + 1 → length (lines_in q hand.commits) ≡ lines_of q hand.commits
    → new ≡ fenced committer old → HoldsState q old → HoldsState (record q { hand = Some (record hand { ticks = hand.ticks + 1 }) }) new
holds-lines q hand old new in_hand ticks counted is h =
    let next : Hand = record hand { ticks = hand.ticks + 1 } in
    let after = holds-fenced q old new committer is h in
    with_hand q (Some next) new after.slots after.sweeping (inr (by_stage (subst (HoldsHand q new) in_hand after.log) (subst (HoldsHand q old) in_hand h.log)))
  where
    by_stage : HoldsHand q new (Some hand) → HoldsHand q old (Some hand) → IsRecording (record q { hand = Some (record hand { ticks = hand.ticks + 1 }) }) (record hand { ticks = hand.ticks + 1 }) new
    by_stage (inr r) before = absurd (omega (arith, ticks, r.ticks))
    by_stage (inl f) (inr r) = absurd (omega (arith, ticks, r.ticks))
    by_stage (inl f) (inl g) =
        let settled : IsBatchSettled q hand.commits new = lines-settled q hand.commits old new is (all g.ready) in
        record {
          stage = StoreBody 1;
          staged = (omega arith, omega arith);
          under_way = λ e. cc e;
          ticks = omega (arith, ticks);
          replaces = replacing_begun q.layout q.ruling hand.target new f.follows;
          settled = record { own = settled.own; ended = settled.ended };
        }
      where
        all : AreReady q.layout old (take (hand.ticks - 1) (lines_in q hand.commits)) → AreReady q.layout old (lines_in q hand.commits)
        all = subst (AreReady q.layout old) (take_all (hand.ticks - 1) (lines_in q hand.commits) (omega (arith, ticks, counted)))
