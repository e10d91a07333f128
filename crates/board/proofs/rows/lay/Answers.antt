use Rattle.std.proofs.Common.{arith}
use Rattle.board.proofs.Puts.{unwritten, unwritten_first, unwritten_at}
use Rattle.board.proofs.rows.lay.Goals as goal

pub returns-in_err-overlay-clause-others : goal.returns-in_err-overlay-clause-others
returns-in_err-overlay-clause-others c k none = grind (arith, unwritten_at, unwritten, unwritten_first)

pub returns-clause-others : goal.returns-clause-others
returns-clause-others c k none = grind (arith, unwritten, unwritten_first)
