use Rattle.std.proofs.Common.{◌≡◌, map, take}
use Rattle.base.specs.Choosing.{passed_over}
use Rattle.txn.specs.DrawnCommits.{plain_drawn}
use Rattle.txn.proofs.drawn.DrawnCommits.passed_over.Given as goal

abbrev pub invariant-loop-commit : goal.invariant-loop-commit
invariant-loop-commit l = l.longs ≡ passed_over l.reach (map plain_drawn (take l.commit-index l.commit-items))
