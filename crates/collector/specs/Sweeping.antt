-- What sweeping a slot does to a device, as lists of its operations.
use Rattle.std.specs.Prelude.{ℕ, Bool, ◌&&◌, not, nat_lt, if◌then◌else◌, List, [], ◌∷◌}
use Rattle.base.specs.declared.gap.Gap.{Gap}
use Rattle.base.specs.Actors.{collector}
use Rattle.base.specs.Layout.{Layout}
use Rattle.base.specs.Lists.{is_nil}
use Rattle.pmem.specs.Trace.{Operation, fence_op}
use Rattle.version_slot.specs.Operations.{sweep_operations as operations_of_sweep}

-- the collector sweeps a slot
abbrev pub sweep_operations : Layout → List Gap → (ℕ → ℕ) → ℕ → List Operation
sweep_operations a = operations_of_sweep a collector

-- there are gaps that aren't swept
abbrev pub is_due : Bool → List Gap → Bool
is_due swept gaps = not swept && not (is_nil gaps)

-- a slot is swept, if that is due
abbrev pub slot_operations : Layout → List Gap → Bool → ℕ → (ℕ → ℕ) → List Operation
slot_operations a gaps swept slot value = if is_due swept gaps then sweep_operations a gaps value slot else []

-- and at the closing place there is a fence
abbrev pub end_operations : List Gap → Bool → List Operation
end_operations gaps swept = if is_due swept gaps then fence_op collector ∷ [] else []

-- those of a tick, by its place
abbrev pub tick_operations : Layout → List Gap → Bool → ℕ → (ℕ → ℕ) → List Operation
tick_operations a gaps swept place value = if nat_lt place a.slots then slot_operations a gaps swept place value else end_operations gaps swept
