use Rattle.std.proofs.Common.{arith}
use Rattle.base.proofs.KeyOrder.{looked-up}
use Rattle.index.proofs.Changes.{found-at, none-at}
use Rattle.index.proofs.map.Index.search.Goals as goal

pub returns-in-Some-clause-some : goal.returns-in-Some-clause-some
returns-in-Some-clause-some c = grind (arith, found-at, looked-up)

pub returns-in-None-clause-none : goal.returns-in-None-clause-none
returns-in-None-clause-none c = grind (arith, none-at, looked-up)
