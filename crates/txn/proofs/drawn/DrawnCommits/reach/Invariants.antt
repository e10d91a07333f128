use Rattle.std.specs.Prelude.{◌≡◌, ◌≤◌, take}
use Rattle.txn.proofs.Passes.{Walk, walk_over}
use Rattle.txn.proofs.drawn.DrawnCommits.reach.Given as goal

abbrev pub invariant-loop-commit : goal.invariant-loop-commit
invariant-loop-commit l = (◌≡◌ {A = Walk} (record { reached = l.reached; unstamped = l.unstamped }) (walk_over l.most l.persisted (take l.commit-index l.commit-items))) × (l.unstamped ≤ l.commit-index)
