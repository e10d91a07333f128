use Rattle.std.proofs.Common.{◌≡◌, ℕ, nat_eq, take, if◌then◌else◌}
use Rattle.base.specs.declared.key.Key.{Key}
use Rattle.board.specs.Versions.{lookup_version, version_after}
use Rattle.board.proofs.versions.enter_some.Given as goal

abbrev pub invariant-loop-commit : goal.invariant-loop-commit
invariant-loop-commit l =
    (k : Key) (s : ℕ) → lookup_version l.versions.entries k s ≡ (if nat_eq l.stamp s then version_after k (lookup_version l.initial.versions.entries k s) (take l.commit-index l.commits) else lookup_version l.initial.versions.entries k s)
