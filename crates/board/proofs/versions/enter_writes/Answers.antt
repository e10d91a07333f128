use Rattle.std.proofs.Common.{arith}
use Rattle.board.proofs.Puts.{none_on}
use Rattle.board.proofs.Places.{unentered}
use Rattle.board.proofs.versions.enter_writes.Goals as goal

pub returns-in_err-enter_one-clause-others : goal.returns-in_err-enter_one-clause-others
returns-in_err-enter_one-clause-others c k s none = grind (arith, unentered, none_on)
