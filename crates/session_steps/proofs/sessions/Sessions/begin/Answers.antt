use Rattle.std.proofs.Math.Bool.{Bool-set}
use Rattle.std.proofs.Math.Logic.{∥∥₁_elim}
use Rattle.session_steps.proofs.Limits.{gaps-listed}
use Rattle.session_steps.proofs.transactions.Steps.{begins, begins-not}
use Rattle.session_steps.proofs.sessions.Sessions.begin.Goals as goal

pub returns-in-Ok : goal.returns-in-Ok
returns-in-Ok c = record { step = λ h holds. begins c.args.self.now c.begin.new.self c.in-Ok.number _ h c.in-Ok.ensures.number c.covered-covered.ensures c.in-Ok.ensures.opened holds }

pub returns-in-Err : goal.returns-in-Err
returns-in-Err c = record { step = λ h holds. rw c.in-Err.ensures.same (begins-not c.args.self.now c.in-Err.fault h c.in-Err.ensures.fault holds) }

pub covered-covered-requires : goal.covered-covered-requires
covered-covered-requires c = ∥∥₁_elim c.requires.shown (Bool-set _ _) (λ shown. gaps-listed c.args.self.now shown.0 shown.1)
