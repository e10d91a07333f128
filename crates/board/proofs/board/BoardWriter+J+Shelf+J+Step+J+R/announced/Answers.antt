use Rattle.std.proofs.Common.{arith}
use Rattle.board.proofs.Growing.{list_on}
use Rattle.board.proofs.board.BoardWriter+J+Shelf+J+Step+J+R.announced.Goals as goal

pub returns : goal.returns
returns g c = grind (arith, list_on)
