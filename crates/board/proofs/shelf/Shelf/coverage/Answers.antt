use Rattle.std.proofs.Common.{arith}
use Rattle.board.proofs.Ends.{last_coverage_is}
use Rattle.board.proofs.Standing.{stored_coverage}
use Rattle.board.proofs.shelf.Shelf.coverage.Goals as goal

pub returns-in-Some : goal.returns-in-Some
returns-in-Some g c = grind (arith, last_coverage_is, stored_coverage)
