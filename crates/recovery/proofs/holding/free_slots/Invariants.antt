use Rattle.std.proofs.Common.{◌≡◌}
use Rattle.base.specs.Images.{Image}
use Rattle.recovery.specs.Slots.{AreReadings, free_below}
use Rattle.recovery.proofs.holding.free_slots.Given as goal

abbrev pub invariant-loop-slot : goal.invariant-loop-slot
invariant-loop-slot l = (image : Image) → AreReadings image l.readings → l.free.items ≡ free_below image l.slot
