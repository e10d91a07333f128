-- What is read of an image that isn't opened.
use Rattle.std.specs.Prelude.{◌≡◌, ◌⊎◌, ℕ, List, [], ◌∷◌, flat_map, Some, None, if◌then◌else◌}
use Rattle.std.specs.List.{range_with_len}
use Rattle.base.specs.declared.key.Key.{Key}
use Rattle.base.specs.declared.fault.Fault.{Fault}
use Rattle.base.specs.declared.fault.Fault.TheVariants.{OutOfMemory}
use Rattle.base.specs.Layout.{Layout}
use Rattle.base.specs.Records.{Record}
use Rattle.base.specs.Images.{Image, IsRuledBy, IsSound, damage, layout_of, ruling, key_of, row_of, is_shown, log_damage}
use Rattle.recovery.specs.declared.examining.Readings.{Readings}
use Rattle.recovery.specs.Slots.{readings_below}

-- a slot's key and row, if it is live
abbrev pub row_at : Image → ℕ → List (Key × List ℕ)
row_at image slot = if is_shown (ruling image) image slot then (key_of image slot, row_of image slot) ∷ [] else []

-- those of the slots below a number, in order
unfoldable pub rows_below : Image → ℕ → List (Key × List ℕ)
rows_below image n = flat_map (row_at image) (range_with_len 0 n)

-- The image is sound, and has this layout, this ruling record, and these keys and rows in its live slots.
-- Excluded: a damaged image that is read.
pub record IsRead (image : Image) (layout : Layout) (r : Record) (rows : List (Key × List ℕ)) : Type 0 where
  pub sound : IsSound image
  pub layout_is : layout ≡ layout_of image
  pub rules : r ≡ ruling image
  pub rows_are : rows ≡ rows_below image (layout_of image).slots

-- The first fault of an image that isn't sound; lack of memory only if the superblock, the gates and the ruling record are right.
-- Excluded: a sound image that is refused, except for lack of memory.
abbrev pub IsReadRefusal : Image → Fault → Type 0
IsReadRefusal image fault = (damage image ≡ Some fault) ⊎ ((log_damage image ≡ None) × (fault ≡ OutOfMemory))

-- the fault of the superblock, of a gate or of the ruling record; lack of memory only if these are right
abbrev pub IsLogRefusal : Image → Fault → Type 0
IsLogRefusal image fault = (log_damage image ≡ Some fault) ⊎ ((log_damage image ≡ None) × (fault ≡ OutOfMemory))

-- the fault of the superblock, of a gate or of the ruling record is the one that is reported, if there is one
abbrev pub ReportsLogFault : Image → Fault → Type 0
ReportsLogFault image fault = (log_damage image ≡ Some fault) ⊎ (log_damage image ≡ None)

-- this was read of the image: what rules it, and each slot
pub record AreOf (image : Image) (readings : Readings) : Type 0 where
  pub rules : IsRuledBy readings.geometry readings.ruling image
  pub slots_are : readings.slots.items ≡ readings_below image readings.geometry.slots
