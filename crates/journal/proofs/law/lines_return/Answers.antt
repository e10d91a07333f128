use Rattle.journal.proofs.LinePayloads.{lines-return}
use Rattle.journal.proofs.law.lines_return.Goals as goal

pub returns : goal.returns
returns c = lines-return
