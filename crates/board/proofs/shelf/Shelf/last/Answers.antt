use Rattle.std.proofs.Common.{arith}
use Rattle.board.proofs.Ends.{last_is}
use Rattle.board.proofs.shelf.Shelf.last.Goals as goal

pub returns-in-Some : goal.returns-in-Some
returns-in-Some g c = grind (arith, last_is)
