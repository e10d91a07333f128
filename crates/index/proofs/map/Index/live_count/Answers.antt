use Rattle.std.proofs.Common.{arith}
use Rattle.index.proofs.LiveKeys.{live-counted}
use Rattle.index.proofs.map.Index.live_count.Goals as goal

pub returns : goal.returns
returns c = grind (arith, live-counted)
