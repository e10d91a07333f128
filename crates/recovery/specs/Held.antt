-- What the slots of an image hold, of which none is bad.
use Rattle.std.specs.Prelude.{◌≡◌, ◌↔◌, ℕ, suc, ◌<◌, false, List, [], ◌∷◌, length, map, slice_get, Some, None, All, IsTrue}
use Rattle.std.specs.List.{filter_map}
use Rattle.base.specs.declared.key.Key.{Key}
use Rattle.base.specs.Keys.{lookup_key}
use Rattle.base.specs.Images.{Image}
use Rattle.recovery.specs.declared.slots.SlotContent.{SlotContent}
use Rattle.recovery.specs.declared.slots.SlotContent.TheVariants.{Live}
use Rattle.recovery.specs.declared.rows.LiveSlot.{LiveSlot}
use Rattle.recovery.specs.declared.holding.Held.{Held}
use Rattle.recovery.specs.declared.holding.Findings.{Findings}
use Rattle.recovery.specs.Slots.{AreReadings, bad_below, free_below, held_key, is_unfit}
use Rattle.recovery.specs.Live.{live_below}

-- the keys of live slots with their places in the list, from a number on
abbrev pub placed : ℕ → List LiveSlot → List (Key × ℕ)
placed n [] = []
placed n (s ∷ live) = (s.key, n) ∷ placed (suc n) live

-- the keys of the live versions that were read, in order of the slots
abbrev pub held_keys : List SlotContent → List Key
held_keys = filter_map held_key

-- keys with their places in the list, from a number on
abbrev pub numbered : ℕ → List Key → List (Key × ℕ)
numbered n [] = []
numbered n (key ∷ keys) = (key, n) ∷ numbered (suc n) keys

-- each of the live slots has its place in the list by its key, and there is nothing else
pub record HavePlaces (live : List LiveSlot) (places : List (Key × ℕ)) : Type 0 where
  pub there : (key : Key) (place : ℕ) → lookup_key places key ≡ Some place → (s : LiveSlot) × (slice_get live place ≡ Some s) × (s.key ≡ key)
  pub once : (s : LiveSlot) (place : ℕ) → slice_get live place ≡ Some s → lookup_key places s.key ≡ Some place

-- each slot below a number in which a live version was found is one of these
abbrev pub HasEach : List SlotContent → ℕ → List LiveSlot → Type 0
HasEach readings n live = (slot : ℕ) (reading : SlotContent) (key : Key) → slot < n → slice_get readings slot ≡ Some reading → reading ≡ Live key
    → (place : ℕ) × ((s : LiveSlot) × (slice_get live place ≡ Some s) × (s.slot ≡ slot) × (s.key ≡ key))

-- none of the first `slots` slots is bad, these are free, and the others have these places
pub record AreHeld (image : Image) (slots : ℕ) (held : Held) : Type 0 where
  pub good : bad_below image slots ≡ None
  pub free_are : held.free.items ≡ free_below image slots
  pub live_are : held.live.items ≡ live_below image slots
  pub placed_so : HavePlaces held.live.items held.places.entries

-- which slots are free and which are live, if none is bad, and whether each holds by itself what it should
pub record AreFindings (readings : List SlotContent) (findings : Findings) : Type 0 where
  pub free : (image : Image) → AreReadings image readings → findings.free.items ≡ free_below image (length readings)
  pub live : (image : Image) → AreReadings image readings → findings.live.items ≡ live_below image (length readings)
  pub each : HasEach readings (length readings) findings.live.items
  pub keys : map (λ s. s.key) findings.live.items ≡ held_keys readings
  pub are_fit : IsTrue findings.are_fit ↔ All (λ reading. is_unfit reading ≡ false) readings
