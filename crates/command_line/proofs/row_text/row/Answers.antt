use Rattle.std.proofs.lemmas.Result.{IfOk-weaker, IfErr-weaker}
use Rattle.command_line.proofs.Rows.{row_of-spelled, no_row}
use Rattle.command_line.proofs.row_text.row.Goals as goal

pub returns-clause-spelled : goal.returns-clause-spelled
returns-clause-spelled c = IfOk-weaker c.decoded.result _ _ (λ row e. row_of-spelled c.args.word.now row.items e) c.decoded.ensures.value

pub returns-clause-unspelled : goal.returns-clause-unspelled
returns-clause-unspelled c = IfErr-weaker c.decoded.result _ _ (λ fault none is. no_row c.args.word.now (none is)) c.decoded.ensures.refused
