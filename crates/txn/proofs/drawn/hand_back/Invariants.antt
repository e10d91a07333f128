use Rattle.std.proofs.Common.{◌≡◌, take, vec_len}
use Rattle.txn.proofs.drawn.hand_back.Given as goal

abbrev pub decreases-loop-commits : goal.decreases-loop-commits
decreases-loop-commits l = vec_len l.commits

abbrev pub invariant-loop-commits : goal.invariant-loop-commits
invariant-loop-commits l = record {
  first : take l.kept l.commits.items ≡ take l.kept l.fn.commits.items;
  transactions : l.transactions ≡ l.fn.transactions;
}
