use Rattle.std.proofs.Common.{◌≡◌}
use Rattle.std.specs.BTreeMap.{get}
use Rattle.base.specs.declared.key.Key.{Key}
use Rattle.recovery.specs.Slots.{key_cmp}
use Rattle.image_check.specs.Checked.{last_at}
use Rattle.image_check.proofs.sorting.mapped.Given as goal

abbrev pub invariant-loop-key : goal.invariant-loop-key
invariant-loop-key l = (key : Key) → get key_cmp l.tables key ≡ last_at l.yielded key
