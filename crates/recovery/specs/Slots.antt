-- What the slots of an image hold, one by one.
use Rattle.std.specs.Prelude.{◌≡◌, ◌⊎◌, ℕ, ◌+◌, Bool, true, false, not, ◌&&◌, if◌then◌else◌, List, length, map, Option, Some, None, is_some}
use Rattle.std.specs.List.{range_with_len}
use Rattle.std.specs.declared.cmp.Ordering.{Ordering}
use Rattle.std.specs.Ordering.{nat_cmp, ordering_then}
use Rattle.std.specs.Option.{option_map}
use Rattle.base.specs.declared.key.Key.{Key}
use Rattle.base.specs.declared.fault.Fault.{Fault}
use Rattle.base.specs.declared.fault.Fault.TheVariants.{Damaged, OutOfMemory}
use Rattle.base.specs.Keys.{key_eq}
use Rattle.base.specs.Layout.{Layout}
use Rattle.base.specs.Records.{Record}
use Rattle.base.specs.Search.{first_below}
use Rattle.base.specs.Images.{Image, layout_of, ruling, key_of, is_ahead, is_shown, is_misfit, is_bad_slot}
use Rattle.recovery.specs.declared.slots.SlotContent.{SlotContent}
use Rattle.recovery.specs.declared.slots.SlotContent.TheVariants.{Bad, Live, Free}

-- the image has this layout, and this record rules it
unfoldable pub IsUnder : Layout → Record → Image → Type 0
IsUnder layout r image = (layout_of image ≡ layout) × (ruling image ≡ r)

-- what a slot holds by itself, whatever other slots hold
unfoldable pub found_in : Image → ℕ → SlotContent
found_in image slot =
    if is_ahead (ruling image) image slot then Bad else
    (if is_shown (ruling image) image slot then (if is_misfit image slot then Bad else Live (key_of image slot)) else Free)

-- it is bad by itself
abbrev pub is_unfit : SlotContent → Bool
is_unfit Bad = true
is_unfit Free = false
is_unfit (Live key) = false

-- a live version is there
abbrev pub is_held : SlotContent → Bool
is_held (Live key) = true
is_held Free = false
is_held Bad = false

-- the key of a live version
abbrev pub held_key : SlotContent → Option Key
held_key (Live key) = Some key
held_key Free = None
held_key Bad = None

-- what is read of each slot below a number, in order
unfoldable pub readings_below : Image → ℕ → List SlotContent
readings_below image n = map (found_in image) (range_with_len 0 n)

-- free when the image is opened: not live
unfoldable pub is_free : Image → ℕ → Bool
is_free image slot = not (is_shown (ruling image) image slot)

-- the slots below a number, each free or not
unfoldable pub free_below : Image → ℕ → List Bool
free_below image n = map (λ slot. not (is_shown (ruling image) image slot)) (range_with_len 0 n)

-- the slot is bad under the ruling record
unfoldable pub is_bad : Image → ℕ → Bool
is_bad image = is_bad_slot (ruling image) image

-- the lowest bad slot below a number
unfoldable pub bad_below : Image → ℕ → Option ℕ
bad_below image n = first_below n (is_bad_slot (ruling image) image)

-- these are the readings of as many slots of the image, of which none is bad
pub record AreReadings (image : Image) (readings : List SlotContent) : Type 0 where
  pub all : readings ≡ readings_below image (length readings)
  pub good : bad_below image (length readings) ≡ None

-- the keys of the live slots below a number
unfoldable pub HasKeys : Image → ℕ → (Key → Bool) → Type 0
HasKeys image n has = (key : Key) → has key ≡ is_some (first_below n (λ lower. is_shown (ruling image) image lower && key_eq (key_of image lower) key))

-- the order of keys
abbrev pub key_cmp : Key → Key → Ordering
key_cmp a b = ordering_then (nat_cmp a.table b.table) (nat_cmp a.key b.key)

-- lack of memory, or this slot is bad
abbrev pub IsVisitFault : Image → ℕ → ℕ → Fault → Type 0
IsVisitFault image places slot fault = (fault ≡ OutOfMemory) ⊎ ((is_bad image slot ≡ true) × (fault ≡ Damaged (places + slot)))

-- lack of memory, or the lowest bad slot
unfoldable pub IsSlotsFault : Layout → Image → Fault → Type 0
IsSlotsFault layout image fault = (fault ≡ OutOfMemory) ⊎ (option_map (λ slot. Damaged (layout.places + slot)) (bad_below image layout.slots) ≡ Some fault)
