-- What a sweep does to a device, and what it stores.
use Rattle.std.specs.Prelude.{◌≡◌, ℕ, ◌+◌, Bool, ◌&&◌, ◌||◌, if◌then◌else◌, IsTrue, List, [], ◌∷◌, ◌++◌, flat_map, map, Option, None}
use Rattle.std.specs.List.{range_with_len}
use Rattle.base.specs.declared.gap.Gap.{Gap}
use Rattle.base.specs.Actors.{committer}
use Rattle.base.specs.Layout.{Layout, slot_start}
use Rattle.base.specs.Records.{Record, is_in, opened_gaps}
use Rattle.base.specs.Images.{Image}
use Rattle.machine.specs.Openings.{is_mark, lies_in_gap}
use Rattle.pmem.specs.Device.{Device}
use Rattle.pmem.specs.Trace.{Operation, fence_op}
use Rattle.pmem.specs.Words.{value_of}
use Rattle.version_slot.specs.Operations.{sweep_operations}

-- the timestamp is in a gap with which opening goes on after the record
abbrev pub lies : Record → ℕ → Bool
lies r t = is_in (opened_gaps r) t

-- the begin or the end of the slot is in a gap
abbrev pub hits : Image → ℕ → Bool
hits image slot = lies_in_gap image 0 slot || lies_in_gap image 1 slot

-- the slots below a number, each with a begin or an end in a gap or not
unfoldable pub hits_below : Image → ℕ → List Bool
hits_below image n = map (hits image) (range_with_len 0 n)

-- these are all slots that are hit, if there are more gaps than a record holds
unfoldable pub AreHits : Image → Layout → Option (List Gap) → List Bool → Type 0
AreHits image layout gaps hits = gaps ≡ None → hits ≡ hits_below image layout.slots

-- the word is a begin or an end, and its timestamp is in a gap
abbrev pub is_hit : Layout → Record → Device → ℕ → Bool
is_hit a r device word = is_mark a word && lies r (value_of device word)

-- 0, stored over a timestamp in such a word
pub record IsSwept (a : Layout) (r : Record) (old : Device) (word x : ℕ) : Type 0 where
  pub hit : IsTrue (is_hit a r old word)
  pub zero : x ≡ 0

-- a slot is swept if its begin or its end is in a gap
abbrev pub slot_operations : Layout → Record → (ℕ → ℕ) → ℕ → List Operation
slot_operations a r value slot =
    if lies r (value (slot_start a slot)) || lies r (value (slot_start a slot + 1)) then sweep_operations a committer (opened_gaps r) value slot else []

-- the slots below a number, in order
abbrev pub sweep_below : Layout → Record → (ℕ → ℕ) → ℕ → List Operation
sweep_below a r value n = flat_map (slot_operations a r value) (range_with_len 0 n)

-- all of them, and a fence waits until that persists
abbrev pub whole_sweep : Layout → Record → (ℕ → ℕ) → List Operation
whole_sweep a r value = sweep_below a r value a.slots ++ fence_op committer ∷ []
