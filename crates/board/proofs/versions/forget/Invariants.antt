use Rattle.std.proofs.Common.{◌≡◌, ℕ, nat_eq, ◌&&◌, None, drop, if◌then◌else◌}
use Rattle.base.specs.declared.key.Key.{Key}
use Rattle.board.specs.Cells.{is_written}
use Rattle.board.specs.Versions.{lookup_version}
use Rattle.board.proofs.versions.forget.Given as goal

abbrev pub invariant-loop-commit : goal.invariant-loop-commit
invariant-loop-commit l =
    (k : Key) (s : ℕ) → (if is_written k (drop l.commit-index l.commits) && nat_eq l.stamp s then None else lookup_version l.versions.entries k s) ≡ (if is_written k l.commits && nat_eq l.stamp s then None else lookup_version l.initial.versions.entries k s)
