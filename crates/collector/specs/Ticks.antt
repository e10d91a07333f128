-- The result of a tick of the collector.
use Rattle.std.specs.Prelude.{ℕ, ◌+◌, Bool, true, nat_lt, if◌then◌else◌, List, slice_set}
use Rattle.base.specs.Layout.{Layout, slot_start}
use Rattle.collector.specs.declared.visit.Visit.{Visit}
use Rattle.collector.specs.declared.visit.Visit.TheVariants.{Slot, SweepEnd}
use Rattle.collector.specs.declared.rounds.Collector.{Collector}

-- which place is visited
abbrev pub visit_at : Layout → ℕ → Visit
visit_at a place = if nat_lt place a.slots then Slot place else SweepEnd

-- the collector goes on to the next place, and from the closing place to slot 0, with the gaps swept
abbrev pub moved_on : Layout → Collector → Collector
moved_on a c = if nat_lt c.place a.slots then record { place = c.place + 1; swept = c.swept } else record { place = 0; swept = true }

-- the slot is free then, if its end counts
abbrev pub freed : Layout → ℕ → (ℕ → Bool) → (ℕ → ℕ) → List Bool → List Bool
freed a slot counts value free = if counts (value (slot_start a slot + 1)) then slice_set free slot true else free

-- so is that of the place, unless it is the closing place
abbrev pub freed_at : Layout → ℕ → (ℕ → Bool) → (ℕ → ℕ) → List Bool → List Bool
freed_at a place counts value free = if nat_lt place a.slots then freed a place counts value free else free
