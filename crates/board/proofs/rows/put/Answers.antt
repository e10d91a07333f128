use Rattle.board.proofs.Puts.{changed_at}
use Rattle.board.proofs.rows.put.Goals as goal

pub returns-in-Ok-clause-done : goal.returns-in-Ok-clause-done
returns-in-Ok-clause-done c k = changed_at _ _ c.args.key c.args.row (λ q. rw c.in-Some.is (c.in-Ok.ensures.updates.0 q)) k

pub returns-in-None-clause-done : goal.returns-in-None-clause-done
returns-in-None-clause-done c k = changed_at _ _ c.args.key c.args.row (λ q. rw c.in-None.is (c.remove.ensures.updates.0 q)) k
