use Rattle.std.proofs.Common.{◌≡◌, ℕ, take, nat_eq}
use Rattle.std.specs.List.{list_any}
use Rattle.dirty_table.specs.Touches.{has}
use Rattle.group_commit.proofs.batch.sessions_of.Given as goal

abbrev pub invariant-loop-commit : goal.invariant-loop-commit
invariant-loop-commit l = (n : ℕ) → has l.sessions n ≡ list_any (λ d. nat_eq d.session n) (take l.commit-index l.commits)
