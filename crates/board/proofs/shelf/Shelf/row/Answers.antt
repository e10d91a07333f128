use Rattle.std.proofs.Common.{arith}
use Rattle.board.proofs.Indexing.{found_row}
use Rattle.board.proofs.shelf.Shelf.row.Goals as goal

pub returns-in-Some : goal.returns-in-Some
returns-in-Some g c = grind (arith, found_row)

pub returns-in-None : goal.returns-in-None
returns-in-None g c = grind (arith, found_row)
