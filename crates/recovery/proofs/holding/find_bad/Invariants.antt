use Rattle.std.proofs.Common.{◌≡◌, None}
use Rattle.std.specs.BTreeSet.{contains}
use Rattle.base.specs.Images.{Image}
use Rattle.recovery.specs.Slots.{HasKeys, readings_below, bad_below, key_cmp}
use Rattle.recovery.proofs.holding.find_bad.Given as goal

abbrev pub invariant-loop-slot : goal.invariant-loop-slot
invariant-loop-slot l = record {
  keys : (image : Image) → l.readings ≡ readings_below image l.geometry.slots → HasKeys image l.slot (contains key_cmp l.seen);
  good : (image : Image) → l.readings ≡ readings_below image l.geometry.slots → bad_below image l.slot ≡ None;
}
