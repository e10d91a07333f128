use Rattle.std.proofs.Common.{◌≡◌, ◌≤◌, drop, length, unwrap_or}
use Rattle.base.specs.declared.key.Key.{Key}
use Rattle.base.specs.Keys.{lookup_key}
use Rattle.board.proofs.rows.overlay.Given as goal

abbrev pub invariant-loop-left : goal.invariant-loop-left
invariant-loop-left l =
    (l.left ≤ length l.writes) × ((k : Key) → lookup_key l.rows.entries k ≡ unwrap_or (lookup_key (drop l.left l.writes) k) (lookup_key l.initial.rows.entries k))

abbrev pub decreases-loop-left : goal.decreases-loop-left
decreases-loop-left l = l.left
