use Rattle.std.proofs.Common.{Some}
use Rattle.board.proofs.Places.{version_changed}
use Rattle.board.proofs.versions.enter_one.Goals as goal

pub returns-in-Ok-clause-done : goal.returns-in-Ok-clause-done
returns-in-Ok-clause-done c k s = version_changed _ _ c.args.place (Some c.args.row) (λ q. c.in-Ok.ensures.updates.0 q) k s
