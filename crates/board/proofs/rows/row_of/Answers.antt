use Rattle.std.proofs.Common.{◌∙◌}
use Rattle.board.proofs.Puts.{found}
use Rattle.board.proofs.rows.row_of.Goals as goal

pub returns : goal.returns
returns c = c.copied.ensures ∙ (c.get.ensures.value ∙ found c.args.rows.now.entries c.args.key.now)
