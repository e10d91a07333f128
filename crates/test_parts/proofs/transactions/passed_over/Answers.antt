use Rattle.std.proofs.Common.{ap, arith, length, List}
use Rattle.txn.specs.declared.drawn.DrawnCommit.{DrawnCommit}
use Rattle.txn.proofs.Passed.{few-passed}
use Rattle.test_parts.proofs.transactions.passed_over.Goals as goal

pub passed_over-requires : goal.passed_over-requires
passed_over-requires c =
    let same = ap (λ (ds : List DrawnCommit). length ds) c.as_slice.ensures.commits in
    omega (arith, same, few-passed c.args.reach c.args.drawn.now.commits)
