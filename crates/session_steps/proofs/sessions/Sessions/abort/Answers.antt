use Rattle.std.proofs.Math.Bool.{Bool-set}
use Rattle.std.proofs.Math.Logic.{∥∥₁_elim}
use Rattle.std.proofs.Common.{refl}
use Rattle.base.specs.declared.step.SessionStep.TheVariants.{Abort}
use Rattle.session_steps.proofs.slots.Freeing.{aborts, fits-held}
use Rattle.session_steps.proofs.transactions.Steps.{inactive}
use Rattle.session_steps.proofs.sessions.Sessions.abort.Goals as goal

pub release-requires : goal.release-requires
release-requires c = ∥∥₁_elim c.requires.shown (Bool-set _ _) (λ shown. fits-held c.args.self.now c.args.session _ _ shown.0 c.in-Ok.ensures.ok shown.1)

pub returns-in-Ok : goal.returns-in-Ok
returns-in-Ok c = record { step = λ h holds. aborts c.args.self.now c.end.new.self c.release.new.slots c.args.session _ _ h c.in-Ok.ensures.ok c.release.ensures c.end.ensures holds }

pub returns-in-Err : goal.returns-in-Err
returns-in-Err c = record { step = λ h holds. inactive c.args.self.now (Abort c.args.session) c.args.session c.in-Err.fault h refl refl c.in-Err.ensures.fault holds }
