use Rattle.std.proofs.Common.{ap, arith, length, map, List}
use Rattle.base.specs.Choosing.{reach}
use Rattle.base.specs.Layout.{most_longs}
use Rattle.txn.specs.declared.drawn.DrawnCommit.{DrawnCommit}
use Rattle.txn.specs.DrawnCommits.{plain_drawn}
use Rattle.txn.proofs.Passed.{few-passed}
use Rattle.test_parts.proofs.batches.begin.Goals as goal

pub begin-requires-clause-few : goal.begin-requires-clause-few
begin-requires-clause-few c =
    let ds = c.args.drawn.now.commits in
    let same = ap (λ (ds : List DrawnCommit). length ds) c.as_slice.ensures.commits in
    omega (arith, same, few-passed (reach (most_longs c.args.numbers.now.geometry.version) c.args.numbers.now.record.persisted (map plain_drawn ds)) ds)
