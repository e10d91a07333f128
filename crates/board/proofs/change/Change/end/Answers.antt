use Rattle.std.proofs.Common.{sym, ◌∙◌}
use Rattle.board.proofs.Ends.{last_coverage-push}
use Rattle.board.proofs.change.Change.end.Goals as goal

pub returns-in-Add : goal.returns-in-Add
returns-in-Add c list h = rw c.in-Add.is (c.after.ensures ∙ sym (last_coverage-push list c.in-Add.batch))
