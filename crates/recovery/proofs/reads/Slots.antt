-- What readings of the slots show of an image.
use Rattle.std.proofs.Common.{◌≡◌, ℕ, ◌<◌, true, false, List, get_or, length, sym, ◌∙◌, ap, subst, arith}
use Rattle.std.specs.Prelude.{None}
use Rattle.std.proofs.lemmas.List.FromFn.{length-map-range_with_len, get_or-map-range_with_len}
use Rattle.base.specs.declared.key.Key.{Key}
use Rattle.base.specs.Images.{Image}
use Rattle.recovery.specs.declared.slots.SlotContent.{SlotContent}
use Rattle.recovery.specs.declared.slots.SlotContent.TheVariants.{Live}
use Rattle.recovery.specs.declared.rows.LiveSlot.{LiveSlot}
use Rattle.recovery.specs.Live.{live_at}
use Rattle.recovery.specs.Slots.{AreReadings, found_in, readings_below, bad_below, is_bad, is_free}
use Rattle.recovery.proofs.reads.Visits.{found-free, found-live, found-bad}

-- ---- of all slots

-- what was read of one slot
pub found-at : (image : Image) (n slot : ℕ) (d : SlotContent) (readings : List SlotContent) → readings ≡ readings_below image n → slot < n → get_or readings slot d ≡ found_in image slot
unfolding readings_below
found-at image n slot d readings are h = ap (λ (xs : List SlotContent). get_or xs slot d) are ∙ get_or-map-range_with_len (found_in image) 0 n slot slot d h (omega arith)

-- a slot that isn't bad is live or free, as it was found
pub live-here : (image : Image) (slot : ℕ) (key : Key) → Live key ≡ found_in image slot → is_free image slot ≡ false
live-here image slot key found = (found-live image slot key found).0

pub free-here : (image : Image) (slot : ℕ) (found : SlotContent) → found ≡ found_in image slot → is_bad image slot ≡ false → ((key : Key) → found ≡ Live key → ⊥) → is_free image slot ≡ true
free-here image slot a is good dead = grind (arith, found-free, found-bad)

pub live-is : (image : Image) (slot : ℕ) (key : Key) → Live key ≡ found_in image slot → ◌≡◌ {A = LiveSlot} (record { key = key; slot = slot }) (live_at image slot)
live-is image slot key found = grind (arith, found-live)

pub readings-size : (image : Image) (n : ℕ) → length (readings_below image n) ≡ n
unfolding readings_below
readings-size image n = length-map-range_with_len (found_in image) 0 n

-- what was read is one reading of each slot of an image without a bad slot
pub are-readings : (image : Image) (n : ℕ) (readings : List SlotContent) → readings ≡ readings_below image n → bad_below image n ≡ None → AreReadings image readings
are-readings image n readings are good =
    let size : n ≡ length readings = sym (readings-size image n) ∙ ap length (sym are) in
    record { all = are ∙ ap (readings_below image) size; good = subst (λ (k : ℕ). bad_below image k ≡ None) size good }
