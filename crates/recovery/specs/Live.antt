-- The live slots of an image.
use Rattle.std.specs.Prelude.{ℕ, List, [], ◌∷◌, flat_map, if◌then◌else◌}
use Rattle.std.specs.List.{range_with_len}
use Rattle.base.specs.Images.{Image, ruling, key_of, begin_of, is_shown}
use Rattle.recovery.specs.declared.rows.LiveSlot.{LiveSlot}
use Rattle.recovery.specs.declared.rows.OpenedSlot.{OpenedSlot}

-- a slot, with its key
abbrev pub live_at : Image → ℕ → LiveSlot
live_at image slot = record { key = key_of image slot; slot = slot }

-- the live ones below a number, in order
unfoldable pub live_below : Image → ℕ → List LiveSlot
live_below image n = flat_map (λ slot. if is_shown (ruling image) image slot then live_at image slot ∷ [] else []) (range_with_len 0 n)

-- the live slot with its begin
abbrev pub opened_slot : Image → LiveSlot → OpenedSlot
opened_slot image s = record { key = s.key; slot = s.slot; begin = begin_of image s.slot }
