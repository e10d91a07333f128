use Rattle.std.proofs.Common.{◌≡◌, ◌≤◌, length, map, take}
use Rattle.std.specs.Prelude.{vec_capacity}
use Rattle.base.specs.Choosing.{chosen}
use Rattle.txn.specs.DrawnCommits.{plain_drawn}
use Rattle.group_commit.proofs.batch.commits_of.Given as goal

abbrev pub invariant-loop-commit : goal.invariant-loop-commit
invariant-loop-commit l = (l.commits.items ≡ chosen l.reach (map plain_drawn (take l.commit-index l.drawn))) × (length l.drawn ≤ vec_capacity l.commits)
