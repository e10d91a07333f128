use Rattle.std.proofs.Common.{arith}
use Rattle.index.proofs.Changes.{kept, there-some}
use Rattle.index.proofs.map.Index.reserve.Goals as goal

pub returns-in-Ok-clause-room : goal.returns-in-Ok-clause-room
returns-in-Ok-clause-room c = grind (arith, kept, there-some)
