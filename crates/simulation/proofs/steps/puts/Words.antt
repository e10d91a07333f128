-- The words of a version are stored behind a begin that is 0, in the slot of a put.
use Rattle.std.proofs.Common.{◌≡◌, ◌≢◌, ℕ, zero, suc, ◌+◌, ◌-◌, ◌/◌, ◌<◌, ◌≤◌, Bool, false, cond, List, map, length, get_or, refl, sym, ◌∙◌, ap, subst, arith}
use Rattle.std.specs.List.{range_with_len}
use Rattle.std.proofs.lemmas.Bool.{eq-eqb, ne_eqb}
use Rattle.base.specs.Layout.{Layout, slot_start, slot_words, total_words}
use Rattle.base.proofs.Layouts.{used-words}
use Rattle.base.specs.Images.{Image, layout_of, slot_word}
use Rattle.machine.specs.Machine.{State}
use Rattle.base.specs.Records.{is_in}
use Rattle.pmem.specs.Device.{Device, stored, flushed}
use Rattle.pmem.specs.Words.{value_of, IsReady, IsSettledAt}
use Rattle.pmem.specs.Trace.{Operation, store_op, after, Along}
use Rattle.pmem.proofs.OperationEffects.{value-stored_other}
use Rattle.version_slot.specs.declared.words.Version.{Version as Content}
use Rattle.version_slot.specs.Words.{Fits, IsVersion, filled_word, version_word, link_number}
use Rattle.version_slot.specs.Operations.{fill_operations}
use Rattle.version_slot.proofs.ImageSlots.{key_is, row_is_of, link_of_is, well_formed}
use Rattle.state_invariant.specs.Links.{LinksTo}
use Rattle.state_invariant.specs.Shown.{word_of, SameWords, Spells}
use Rattle.device_invariant.specs.Upholds.{HoldsState}
use Rattle.device_invariant.proofs.moves.Stores.{others-stored}
use Rattle.device_invariant.proofs.puts.Slots.{IsUndrawn, holds-filled}

-- ---- a word that was stored and flushed

pub ready-stored : (word value actor : ℕ) (device : Device) → IsReady (flushed actor (word / 8) (stored word value device)) actor word
ready-stored word value actor device = grind (arith)

-- ---- values

abbrev stores_from : ℕ → (ℕ → ℕ) → ℕ → ℕ → List Operation
stores_from first value from n = map (λ k. store_op (first + k) (value k)) (range_with_len from n)

value-other : (first : ℕ) (value : ℕ → ℕ) (from n : ℕ) (device : Device) (word : ℕ) → ((k : ℕ) → from ≤ k → k < from + n → word ≢ first + k) → value_of (after (stores_from first value from n) device) word ≡ value_of device word
value-other first value from zero device word apart = refl
value-other first value from (suc n) device word apart =
    value-other first value (from + 1) n (stored (first + from) (value from) device) word (λ k le lt. apart k (omega (arith, le)) (omega (arith, lt)))
    ∙ value-stored_other (first + from) (value from) device word (apart from (omega arith) (omega arith))

value-this : (first : ℕ) (value : ℕ → ℕ) (from n : ℕ) (device : Device) (k : ℕ) → from ≤ k → k < from + n → value_of (after (stores_from first value from n) device) (first + k) ≡ value k
value-this first value from zero device k le lt = absurd (omega (arith, le, lt))
value-this first value from (suc n) device k le lt = grind (arith, value-this first value (from + 1) n (stored (first + from) (value from) device) k, value-other)

-- ---- while the slot is filled

-- its begin is 0, and the other slots have what they had
pub record IsFilling (q : State) (old : Device) (slot : ℕ) (device : Device) : Type 0 where
  pub holds : HoldsState q device
  pub begin : IsSettledAt device (word_of q.layout slot 0) 0
  pub others : (other : ℕ) → other < q.layout.slots → (other ≡ slot → ⊥) → SameWords q.layout (value_of old) (value_of device) other

module _ (q : State) (old : Device) (slot : ℕ) (v : Content) (some_next : 0 < q.next) (out : is_in q.ruling.gaps 0 ≡ false) (lt : slot < q.layout.slots) (undrawn : IsUndrawn q slot) where
  end-zero : (w : ℕ) → w ≡ 1 → filled_word v w ≡ 0
  end-zero w is = ap (λ (b : Bool). cond b 0 (version_word v w)) (eq-eqb w 1 is)

  filling-more : (k : ℕ) (device : Device) → k + 1 < slot_words q.layout.version → IsFilling q old slot device → IsFilling q old slot (stored (slot_start q.layout slot + 1 + k) (filled_word v (k + 1)) device)
  filling-more k device low f =
      let place : slot_start q.layout slot + 1 + k ≡ word_of q.layout slot (k + 1) = omega arith in
      let is : stored (slot_start q.layout slot + 1 + k) (filled_word v (k + 1)) device ≡ stored (word_of q.layout slot (k + 1)) (filled_word v (k + 1)) device = ap (λ (w : ℕ). stored w (filled_word v (k + 1)) device) place in
      let next = holds-filled q device (stored (slot_start q.layout slot + 1 + k) (filled_word v (k + 1)) device) slot (k + 1) (filled_word v (k + 1)) some_next out lt undrawn (omega arith) low (end-zero (k + 1)) f.begin is f.holds in
      record {
        holds = next.0;
        begin = next.1;
        others = λ other in_slots apart. record { each = λ w in_slot. (others-stored q.layout device (stored (slot_start q.layout slot + 1 + k) (filled_word v (k + 1)) device) slot (k + 1) (filled_word v (k + 1)) low is other in_slots apart w in_slot).value ∙ (f.others other in_slots apart).each w in_slot };
      }

  filling-from : (from n : ℕ) (device : Device) → from + n ≤ slot_words q.layout.version - 1 → IsFilling q old slot device
      → Along (IsFilling q old slot) (stores_from (slot_start q.layout slot + 1) (λ k. filled_word v (k + 1)) from n) device
  filling-from from zero device le f = f
  filling-from from (suc n) device le f =
      (f, filling-from (from + 1) n (stored (slot_start q.layout slot + 1 + from) (filled_word v (from + 1)) device) (omega (arith, le)) (filling-more from device (omega (arith, le)) f))

  pub filling-along : (device : Device) → IsFilling q old slot device → Along (IsFilling q old slot) (fill_operations q.layout slot v) device
  filling-along device f = filling-from 0 (slot_words q.layout.version - 1) device (omega arith) f

-- ---- the version

-- each word after the begin has what it was filled with
pub filled-value : (a : Layout) (slot : ℕ) (v : Content) (device : Device) (w : ℕ) → 1 ≤ w → w < slot_words a.version → value_of (after (fill_operations a slot v) device) (word_of a slot w) ≡ filled_word v w
filled-value a slot v device w one low =
    let place : word_of a slot w ≡ slot_start a slot + 1 + (w - 1) = omega (arith, one) in
    grind (arith, value-this)

-- so the words are those of the version
filled-version : (a : Layout) (slot : ℕ) (v : Content) (device : Device) → Fits a v → (image : Image) → layout_of image ≡ a
    → ((w : ℕ) → 2 ≤ w → w < slot_words a.version → get_or image (word_of a slot w) 0 ≡ value_of (after (fill_operations a slot v) device) (word_of a slot w)) → IsVersion (layout_of image) (slot_word image slot) v
filled-version a slot v device fits image laid words = record {
  each = λ w two low.
      let few : w < slot_words a.version = omega (arith, low, (used-words (layout_of image).version (length v.row)).1, ap (λ (l : Layout). slot_words l.version) laid) in
      let filled : filled_word v w ≡ version_word v w = ap (λ (b : Bool). cond b 0 (version_word v w)) (ne_eqb w 1 (λ e. absurd (omega (arith, e, two)))) in
      ap (λ (l : Layout). get_or image (slot_start l slot + w) 0) laid ∙ words w two few ∙ filled-value a slot v device w (omega (arith, two)) few ∙ filled;
  fits = subst (λ (b : Layout). Fits b v) (sym laid) fits;
}

within-image : (a : Layout) (slot : ℕ) (image : Image) → slot < a.slots → layout_of image ≡ a → slot < (layout_of image).slots
within-image a slot image lt laid = subst (λ (b : Layout). slot < b.slots) (sym laid) lt

whole-image : (a : Layout) (image : Image) → layout_of image ≡ a → length image ≡ total_words a → total_words (layout_of image) ≤ length image
whole-image a image laid size = omega (arith, size, ap total_words laid)

pub filled-spells : (a : Layout) (slot : ℕ) (v : Content) (device : Device) → Fits a v → slot < a.slots → Spells a (value_of (after (fill_operations a slot v) device)) slot v.key v.row
filled-spells a slot v device fits lt = record {
  read = λ image laid size words.
      let inside : slot < (layout_of image).slots = within-image a slot image lt laid in
      let whole : total_words (layout_of image) ≤ length image = whole-image a image laid size in
      let is = filled-version a slot v device fits image laid words in
      record { at = key_is image slot inside whole v is; is = row_is_of image slot inside whole v is; fits = well_formed image slot inside whole v is };
}

-- and so is its link
pub filled-links : (a : Layout) (slot : ℕ) (v : Content) (device : Device) → Fits a v → slot < a.slots → LinksTo a (value_of (after (fill_operations a slot v) device)) slot (link_number v.previous)
filled-links a slot v device fits lt = record {
  read = λ image laid size words. link_of_is image slot (within-image a slot image lt laid) (whole-image a image laid size) v (filled-version a slot v device fits image laid words);
}
