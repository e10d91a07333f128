use Rattle.std.proofs.Common.{arith}
use Rattle.txn.proofs.Passed.{fewer-before, length-passed}
use Rattle.txn.proofs.drawn.DrawnCommits.passed_over.Goals as goal

pub push-requires : goal.push-requires
push-requires c = grind (arith, fewer-before, length-passed)
