use Rattle.std.proofs.Common.{◌≡◌, map, take}
use Rattle.base.specs.Images.{Image}
use Rattle.recovery.specs.declared.rows.LiveSlot.{LiveSlot}
use Rattle.recovery.specs.Slots.{AreReadings}
use Rattle.recovery.specs.Held.{HasEach, held_keys}
use Rattle.recovery.specs.Live.{live_below}
use Rattle.recovery.proofs.rows.live_slots.Given as goal

abbrev pub invariant-loop-slot : goal.invariant-loop-slot
invariant-loop-slot l = record {
  live : (image : Image) → AreReadings image l.readings → l.live.items ≡ live_below image l.slot;
  each : HasEach l.readings l.slot l.live.items;
  keys : map (λ (s : LiveSlot). s.key) l.live.items ≡ held_keys (take l.slot l.readings);
}
