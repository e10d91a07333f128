use Rattle.std.proofs.Common.{◌≡◌, ◌≤◌, ℕ, nat_eq, drop, length, if◌then◌else◌}
use Rattle.std.specs.Option.{option_or}
use Rattle.base.specs.declared.key.Key.{Key}
use Rattle.base.specs.Keys.{lookup_key}
use Rattle.board.specs.Versions.{lookup_version}
use Rattle.board.proofs.versions.enter_writes.Given as goal

abbrev pub invariant-loop-left : goal.invariant-loop-left
invariant-loop-left l =
    (l.left ≤ length l.writes)
    × ((k : Key) (s : ℕ) → lookup_version l.versions.entries k s ≡ (if nat_eq l.stamp s then option_or (lookup_key (drop l.left l.writes) k) (lookup_version l.initial.versions.entries k s) else lookup_version l.initial.versions.entries k s))

abbrev pub decreases-loop-left : goal.decreases-loop-left
decreases-loop-left l = l.left
