use Rattle.std.proofs.Common.{arith}
use Rattle.board.proofs.Puts.{none_on}
use Rattle.board.proofs.rows.overlay.Goals as goal

pub returns-in_err-put-clause-others : goal.returns-in_err-put-clause-others
returns-in_err-put-clause-others c k none = grind (arith, none_on)
