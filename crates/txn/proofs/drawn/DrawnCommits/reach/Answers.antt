use Rattle.std.proofs.Common.{arith}
use Rattle.std.proofs.lemmas.List.{take_all}
use Rattle.txn.proofs.Passes.{walk_over, walk-reaches}
use Rattle.txn.proofs.drawn.DrawnCommits.reach.Goals as goal

pub returns : goal.returns
returns c = grind (arith, take_all, walk_over, walk-reaches)
