use Rattle.std.proofs.Common.{◌≡◌, ℕ, nat_eq, ◌&&◌, None, is_some, drop, if◌then◌else◌}
use Rattle.base.specs.declared.key.Key.{Key}
use Rattle.base.specs.Keys.{lookup_key}
use Rattle.board.specs.Versions.{lookup_version}
use Rattle.board.proofs.versions.forget_writes.Given as goal

abbrev pub invariant-loop-write : goal.invariant-loop-write
invariant-loop-write l =
    (k : Key) (s : ℕ) → (if is_some (lookup_key (drop l.write-index l.writes) k) && nat_eq l.stamp s then None else lookup_version l.versions.entries k s) ≡ (if is_some (lookup_key l.writes k) && nat_eq l.stamp s then None else lookup_version l.initial.versions.entries k s)
