-- The last part of closing: what is drawn is made to persist, and the record that covers it is written.
use Rattle.std.proofs.Common.{◌≡◌, inl, inr, ℕ, zero, suc, ◌+◌, ◌-◌, ◌^◌, ◌<◌, ◌≤◌, true, cond, ◌||◌, List, [], ◌∷◌, length, take, refl, sym, ◌∙◌, ap, subst, arith}
use Rattle.std.specs.Prelude.{Option, Some, is_some, slice_get, nat_eq}
use Rattle.std.proofs.lemmas.Bool.{or_cases, cases_lt}
use Rattle.std.proofs.lemmas.List.{take_all}
use Rattle.std.proofs.lemmas.List.Folds.{list_any-append}
use Rattle.base.specs.Actors.{committer}
use Rattle.base.specs.Commits.{Commit}
use Rattle.base.specs.Images.{Image, IsRuledBy}
use Rattle.base.specs.Records.{Record, is_committed, is_well_formed}
use Rattle.base.specs.Stands.{has_timestamp}
use Rattle.machine.specs.Machine.{State, Hand, Cover, chosen, reach, passed_over, standing_gaps, target_of, taken_in_hand, state_covered, present, uncovered, drawn_of, closed, closing_gate, StandsUnder, StandsClosing, StandsClosed}
use Rattle.base.proofs.Lists.{all-drop, filter-all}
use Rattle.base.proofs.Layouts.{has_window}
use Rattle.machine.proofs.Runs.{StandsAt-closing}
use Rattle.pmem.specs.Device.{Device, MayLeave}
use Rattle.pmem.specs.Words.{LeavesOnly, HasOldWords, Spares, value_of}
use Rattle.pmem.proofs.Images.{leaves-flushed, leaves-fenced, leaves-failed}
use Rattle.log_area.specs.Rulings.{HoldsRecord}
use Rattle.log_area.specs.Writings.{begun, IsOutside, IsNextRecord, IsRuledByEither}
use Rattle.log_area.proofs.Replacing.{holds_ruled}
use Rattle.log_area.proofs.Rulings.{place_below}
use Rattle.state_invariant.specs.Kept.{Origin, Keeps, KeepsHand, covered_since}
use Rattle.state_invariant.specs.Shown.{word_of}
use Rattle.state_invariant.proofs.Commits.{timestamp-all, committed-bounds}
use Rattle.state_invariant.proofs.covers.Chosen.{keeps-chosen, none-passed, all-are_chosen}
use Rattle.state_invariant.proofs.covers.Kept.{keeps-covered}
use Rattle.state_invariant.proofs.Records.{well_formed-further}
use Rattle.state_invariant.proofs.covers.Shown.{shows-covered}
use Rattle.device_invariant.specs.Slots.{SlotHolds, SlotsHold, SlotsSurvive}
use Rattle.device_invariant.specs.Log.{Line, lines_in, line_number, AreReady, IsLineReady, IsBatchSettled, HoldsHand}
use Rattle.device_invariant.specs.Upholds.{Upholds}
use Rattle.device_invariant.proofs.covers.Slots.{slots-covered}
use Rattle.device_invariant.proofs.Laws.{flushes-keep, fences-keep}
use Rattle.device_invariant.proofs.LiveSlots.{IsSafe}
use Rattle.device_invariant.proofs.moves.Shrinking.{ShrinksSlots, slots-shrink, ready-shrink}
use Rattle.device_invariant.proofs.Standing.{stands-under}
use Rattle.device_invariant.proofs.covers.Ticks.{line-flushed, lines-settled}
use Rattle.device_invariant.proofs.Upheld.{every-image-stands, safe, stands-in_hand}
use Rattle.device_invariant.proofs.Words.{word-within, slots-survive}
use Rattle.pmem.proofs.Changes.{flushed-shrinks}
use Rattle.simulation.specs.cycles.Closing.{closing_record, IsClosing, AreFlushed, HasPersisted, IsClosingOn}
use Rattle.simulation.specs.cycles.Laws.{ClosingFlushes, ClosingWrites}
use Rattle.simulation.proofs.cycles.closes.Covers.{at-first, closing-at, closing-last}

-- ---- the log

rests-log : (o : Origin) (q : State) (device : Device) → IsClosing o q device → HoldsRecord q.layout q.ruling device
rests-log o q device c = subst (HoldsHand q device) c.rests c.upholds.holds.log

-- ---- the lines

ready-next : (q : State) (device : Device) (lines : List Line) (i : ℕ) (line : Line) → slice_get lines i ≡ Some line → AreReady q.layout device (take i lines) → IsLineReady q.layout device line → AreReady q.layout device (take (suc i) lines)
ready-next q device [] i line at ready this = absurd (cc at)
ready-next q device (x ∷ lines) zero line at ready this = let same : x ≡ line = cc at in (subst (IsLineReady q.layout device) (sym same) this, tt)
ready-next q device (x ∷ lines) (suc i) line at ready this = (ready.0, ready-next q device lines i line at ready.1 this)

on-closing : (o : Origin) (q : State) (old new : Device) → IsClosing o q old → Upholds o q new → LeavesOnly old new (StandsClosing q) → IsClosingOn o q old new
on-closing o q old new c u images = record { closing = record { works = c.works; rests = c.rests; stamped = c.stamped; upholds = u }; images = images }

stands : (o : Origin) (q : State) (device : Device) → Upholds o q device → (image : Image) → MayLeave device image → StandsClosing q image
stands o q device u image may = StandsAt-closing q image (every-image-stands o q device image u may)

pub closing-flushes : ClosingFlushes
closing-flushes = record {
  begins = λ q device. tt;
  line = λ o q i line old new orderly orderly' c at is flushed_so.
      let u = flushes-keep o q old new committer (line_number q.layout line) is c.upholds in
      let size = (rests-log o q old c).stands.size in
      let shrinks : ShrinksSlots q.layout old new = λ slot lt w low. flushed-shrinks committer (line_number q.layout line) (word_of q.layout slot w) is in
      let next : suc i ≡ 1 + i = omega arith in (
        on-closing o q old new c u (leaves-flushed (StandsClosing q) committer (line_number q.layout line) orderly orderly' is (stands o q old c.upholds) (stands o q new u)),
        subst (AreFlushed q new) next
            (ready-next q new (lines_in q (drawn_of q)) i line at (ready-shrink q.layout old new (take i (lines_in q (drawn_of q))) shrinks flushed_so) (line-flushed q.layout old new line orderly size is)),
      );
  fence = λ o q old new orderly orderly' c is flushed_so.
      let u = fences-keep o q old new committer is c.upholds in
      let all : AreReady q.layout old (lines_in q (drawn_of q)) = subst (AreReady q.layout old) (take_all (length (lines_in q (drawn_of q))) (lines_in q (drawn_of q)) (omega arith)) flushed_so in (
        on-closing o q old new c u (leaves-fenced (StandsClosing q) committer orderly orderly' is (stands o q old c.upholds) (stands o q new u)),
        lines-settled q (drawn_of q) old new is all,
      );
  failing = λ o q old new orderly orderly' c is. leaves-failed (StandsClosing q) orderly orderly' is (stands o q old c.upholds);
}

-- ---- the batch of closing is the one that would be chosen

module _ (o : Origin) (q : State) (device : Device) (c : IsClosing o q device) where
  kept : Keeps o q
  kept = c.upholds.keeps

  -- the batch, under the record that would cover it
  abbrev hand : Hand
  hand = taken_in_hand q

  k : KeepsHand q hand
  k = keeps-chosen o q kept

  all-chosen : chosen q ≡ drawn_of q
  all-chosen = all-are_chosen o q kept c.stamped

  all-uncovered : chosen q ≡ uncovered q
  all-uncovered = all-chosen ∙ sym (ap (λ (h : Option Hand). uncovered (record q { hand = h })) c.rests ∙ filter-all (drawn_of q))

  -- each timestamp that was drawn is persisted
  reaches : reach q ≡ q.next - 1
  reaches = elim (cases_lt (reach q) (q.next - 1)) [
    | inl less ↦ absurd (omega (arith, less, beyond less))
    | inr more ↦ omega (arith, more, k.persisted)
  ]
    where
      beyond : reach q < q.next - 1 → q.next - 1 ≤ reach q
      beyond less =
          let above : o.ruling.persisted < q.next - 1 = omega (arith, less, kept.numbers.origin.further, k.further) in
          let below : q.next - 1 < q.next = omega (arith, less) in
          let has : (has_timestamp (covered_since o q) (q.next - 1) || has_timestamp (drawn_of q) (q.next - 1)) ≡ true =
          sym (list_any-append (λ (c : Commit). nat_eq c.timestamp (q.next - 1)) (covered_since o q) (drawn_of q)) ∙ kept.numbers.origin.each (q.next - 1) above below in
          elim (or_cases (has_timestamp (covered_since o q) (q.next - 1)) (has_timestamp (drawn_of q) (q.next - 1)) has) [
            | inl covered ↦
                let counts : is_committed q.ruling (q.next - 1) ≡ true = timestamp-all (is_committed q.ruling) (covered_since o q) (q.next - 1) (all-drop (λ (c : Commit). is_committed q.ruling c.timestamp) o.opened q.history kept.numbers.covered) covered in
                omega (arith, (committed-bounds q.ruling (q.next - 1) counts).1, k.further)
            | inr drawn ↦
                let counts : is_committed (target_of q) (q.next - 1) ≡ true = timestamp-all (is_committed (target_of q)) (chosen q) (q.next - 1) k.batch (ap (λ (cs : List Commit). has_timestamp cs (q.next - 1)) all-chosen ∙ drawn) in
                (committed-bounds (target_of q) (q.next - 1) counts).1
          ]

  -- the record that would cover it, with no window
  abbrev short : Record
  short = record { gate = q.ruling.gate + 1; persisted = reach q; dirty = q.next; gaps = standing_gaps q; longs = passed_over q }

  short-is : short ≡ closing_record q
  short-is = λ i. record { gate = q.ruling.gate + 1; persisted = reaches i; dirty = q.next; gaps = standing_gaps q; longs = none-passed o q kept c.stamped i }

  -- the batch under that record, and the state once it is covered
  abbrev last_hand : Hand
  last_hand = record { commits = chosen q; target = short; ticks = 1 }

  abbrev last_state : State
  last_state = state_covered q last_hand

  gate-is : closing_gate q ≡ q.ruling.gate + 1
  gate-is = ap (λ (h : Option Hand). let n : ℕ = cond (is_some h) 2 1 in q.ruling.gate + n) c.rests

  cover-is : present last_state ≡ closed q
  cover-is = grind (arith, gate-is, reaches, none-passed, kept, all-uncovered)

  module _ (persisted : HasPersisted q device) where
    abbrev now : State
    now = state_covered q hand

    settled : IsBatchSettled q hand.commits device
    settled = subst (λ (cs : List Commit). IsBatchSettled q cs device) (sym all-chosen) persisted

    held-now : SlotsHold now device
    held-now = slots-covered o q hand device kept k c.upholds.shows c.upholds.holds.sweeping settled c.upholds.holds.slots

    safe-now : IsSafe now (value_of device)
    safe-now = safe o now (value_of device) (keeps-covered o q hand kept k) (shows-covered o q hand (value_of device) c.works kept k c.upholds.shows)

    slot-last : (slot : ℕ) → SlotHolds now device slot → SlotHolds last_state device slot
    slot-last slot h = grind (arith, settled)

    pub held-last : SlotsHold last_state device
    held-last = record { each = λ slot lt. slot-last slot (held-now.each slot lt) }

    pub safe-last : IsSafe last_state (value_of device)
    safe-last = record { reserved = omega arith; covered = safe-now.covered; drawn = safe-now.drawn; once = safe-now.once; rows = safe-now.rows; written = safe-now.written }

    -- if that record rules
    pub last-stands : (late : Device) (image : Image) → IsSafe last_state (value_of late) → SlotsHold last_state late → SlotsSurvive q.layout late image → IsRuledBy q.layout (closing_record q) image → StandsClosed q image
    last-stands late image is_safe held words ruled =
        subst (λ (cover : Cover). StandsUnder q cover image) cover-is
        (stands-in_hand q last_hand image (stands-under last_state late image is_safe held words (subst (λ (r : Record). IsRuledBy q.layout r image) (sym short-is) ruled)))

  pub last-next : closing_gate q < 2 ^ 62 → IsNextRecord q.layout q.ruling (closing_record q) device
  last-next numbered = record {
    holds = rests-log o q device c;
    next = refl;
    fits = record {
      limits = kept.numbers.layout;
      well_formed = subst (λ (n : ℕ). is_well_formed q.layout.version (record { gate = q.ruling.gate + 1; persisted = n; dirty = q.next; gaps = standing_gaps q; longs = [] }) ≡ true) reaches
          (well_formed-further q.layout.version (target_of q) (q.ruling.gate + 1) (reach q) q.next k.formed (omega arith) k.persisted in_range);
      numbered = omega arith;
      in_range = omega (arith, gate-is, numbered);
    };
  }
    where
      in_range : q.next < 2 ^ 62
      in_range = omega (arith, kept.numbers.room, kept.numbers.persisted, window)
        where
          window : 0 < q.layout.window
          window = has_window q.layout kept.numbers.layout

-- ---- the record

-- no slot is in the place that is written
slot-outside : (q : State) (slot w : ℕ) (o : Origin) → Keeps o q → IsOutside (begun q.layout (closing_record q)) (word_of q.layout slot w)
slot-outside q slot w o kept = inr (omega (arith, place_below q.layout (closing_record q) kept.numbers.layout))

module _ (o : Origin) (q : State) (old new : Device) (c : IsClosing o q old) (persisted : HasPersisted q old) (spares : Spares (IsOutside (begun q.layout (closing_record q))) old new) where
  old-words : (image : Image) → HasOldWords (IsOutside (begun q.layout (closing_record q))) old image → SlotsSurvive q.layout old image
  old-words image words = record {
    each = λ slot w lt below.
        words (word_of q.layout slot w) (omega (arith, word-within q.layout slot w lt below, (rests-log o q old c).stands.size)) (slot-outside q slot w o c.upholds.keeps);
  }

  spared : ShrinksSlots q.layout old new
  spared slot lt w low = spares.kept (word_of q.layout slot w) (slot-outside q slot w o c.upholds.keeps)

  last-images : LeavesOnly old new (IsRuledByEither q.layout q.ruling (closing_record q)) → LeavesOnly old new (StandsClosing q)
  last-images ruled = record { continues = ruled.continues; each = λ image might. by_record image (old-words image (spares.left.each image might)) (ruled.each image might) }
    where
      by_record : (image : Image) → SlotsSurvive q.layout old image → IsRuledByEither q.layout q.ruling (closing_record q) image → StandsClosing q image
      by_record image words (inl before) =
          (present q, closing-at q (present q) (at-first q), stands-under q old image (safe o q (value_of old) c.upholds.keeps c.upholds.shows) c.upholds.holds.slots words before)
      by_record image words (inr after_it) = (closed q, closing-last q, last-stands o q old c persisted old image (safe-last o q old c persisted) (held-last o q old c persisted) words after_it)

  -- the values of the slots stay
  safe-kept : IsSafe (last_state o q old c) (value_of old) → IsSafe (last_state o q old c) (value_of new)
  safe-kept s = record {
    reserved = s.reserved;
    covered = s.covered;
    drawn = s.drawn;
    once = s.once;
    rows = s.rows;
    written = λ slot key lt held.
        let was = s.written slot key lt held in
        (was.0, was.1, record { read = λ image laid size same. was.2.read image laid size (λ w two low. same w two low ∙ (spared slot lt w low).value) });
  }

  last-closed : HoldsRecord q.layout (closing_record q) new → (image : Image) → MayLeave new image → StandsClosed q image
  last-closed holds image may =
      last-stands o q old c persisted new image (safe-kept (safe-last o q old c persisted)) (slots-shrink (last_state o q old c) old new spared (held-last o q old c persisted))
      (slots-survive holds.stands.size may) (holds_ruled q.layout (closing_record q) new holds image may)

pub closing-writes : ClosingWrites
closing-writes = record {
  follows = λ o q device c numbered. last-next o q device c numbered;
  images = λ o q old new c persisted numbered spares ruled. last-images o q old new c persisted spares ruled;
  closed = λ o q old new c persisted numbered spares holds. last-closed o q old new c persisted spares holds;
}
