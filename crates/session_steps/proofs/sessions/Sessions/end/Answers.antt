use Rattle.txn.specs.Transactions.{transaction_at}
use Rattle.session_steps.proofs.CodeTests.{barred-over}
use Rattle.session_steps.proofs.transactions.Steps.{ends, ends-not}
use Rattle.session_steps.proofs.sessions.Sessions.end.Goals as goal

pub returns-in-Ok : goal.returns-in-Ok
returns-in-Ok c = record { step = λ h holds. ends c.args.self.now c.end.new.self c.args.session h c.in-Ok.ensures.ok c.end.ensures holds }

pub returns-in-Err : goal.returns-in-Err
returns-in-Err c = record { step = λ h holds. ends-not c.args.self.now c.args.session c.bar.result h (barred-over c.args.self.now.drawn.commits (transaction_at c.args.self.now.transactions c.args.session) c.bar.result c.in-Err.ensures.barred c.bar.ensures) holds }
