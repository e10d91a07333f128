use Rattle.std.proofs.Common.{refl}
use Rattle.base.specs.declared.fault.Fault.TheVariants.{NoSession}
use Rattle.engine.specs.Origins.{Knows}
use Rattle.engine.proofs.Committing.{commit_idle, commit_only_prepared, commit_polled, commit_ended, commit_end_failed}
use Rattle.engine.proofs.Phasing.{phase_after-called}
use Rattle.engine.proofs.Refusing.{called-clean, clean-failed, clean-reported, more-clean, none-clean, then-clean, then-failed, then-refused}
use Rattle.engine.proofs.session.Session.commit.Goals as goal

pub returns-in-None-clause-steps : goal.returns-in-None-clause-steps
returns-in-None-clause-steps g c = commit_idle (Knows g.J.Origin.image _) _ _ c.in-None.ensures.none

pub returns-in-Err-clause-steps : goal.returns-in-Err-clause-steps
returns-in-Err-clause-steps g c = commit_only_prepared (Knows g.J.Origin.image _) _ _ _ _ c.in-Err.ensures.steps

pub returns-in-Ok-end-clause-steps : goal.returns-in-Ok-end-clause-steps
returns-in-Ok-end-clause-steps g c =
    commit_ended _ _ _ _ _ c.in-Some.number c.in-Ok-wait.answer _ c.in-Some.ensures.some c.in-Ok.ensures.steps c.in-Ok-wait.ensures.steps c.in-Ok-end.ensures.ok.0

pub returns-in-Err-end-clause-steps : goal.returns-in-Err-end-clause-steps
returns-in-Err-end-clause-steps g c =
    commit_end_failed (Knows g.J.Origin.image _) _ _ _ _ _ c.in-Some.number c.in-Err-end.fault _ _ c.in-Some.ensures.some c.in-Ok.ensures.steps c.in-Ok-wait.ensures.steps c.in-Err-end.ensures.err

pub returns-in-Err-wait-clause-steps : goal.returns-in-Err-wait-clause-steps
returns-in-Err-wait-clause-steps g c =
    commit_polled (Knows g.J.Origin.image _) _ _ _ _ c.in-Some.number c.in-Err-wait.fault _ c.in-Some.ensures.some c.in-Ok.ensures.steps c.in-Err-wait.ensures.steps

pub returns-in-Ok-end-clause-phase : goal.returns-in-Ok-end-clause-phase
returns-in-Ok-end-clause-phase g c = phase_after-called _ _ _ _ _ c.args.self.now.phase_is c.end.new.self.phase_is (returns-in-Ok-end-clause-steps g c)

pub returns-in-Err-end-clause-phase : goal.returns-in-Err-end-clause-phase
returns-in-Err-end-clause-phase g c = phase_after-called _ _ _ _ _ c.args.self.now.phase_is c.end.new.self.phase_is (returns-in-Err-end-clause-steps g c)

pub returns-in-Err-wait-clause-phase : goal.returns-in-Err-wait-clause-phase
returns-in-Err-wait-clause-phase g c = phase_after-called _ _ _ _ _ c.args.self.now.phase_is c.wait.new.self.phase_is (returns-in-Err-wait-clause-steps g c)

-- ---- which refusal is reported

pub returns-in-None-clause-refusal : goal.returns-in-None-clause-refusal
returns-in-None-clause-refusal g c = clean-failed c.args.self.now.receipts.items _ NoSession (none-clean c.args.self.now.receipts.items)

pub returns-in-Ok-end-clause-refusal : goal.returns-in-Ok-end-clause-refusal
returns-in-Ok-end-clause-refusal g c =
    clean-reported _ _
    (more-clean _ _ _ _ _
    (then-clean _ _ _ (called-clean _ _ _ c.in-Ok.ensures.steps c.in-Ok.ensures.refusal) (called-clean _ _ _ c.in-Ok-wait.ensures.steps c.in-Ok-wait.ensures.refusal))
    c.in-Ok-end.ensures.ok.0 refl)

pub returns-in-Err-end-clause-refusal : goal.returns-in-Err-end-clause-refusal
returns-in-Err-end-clause-refusal g c =
    then-refused _ _ _ _ c.in-Err-end.fault
    (then-clean _ _ _ (called-clean _ _ _ c.in-Ok.ensures.steps c.in-Ok.ensures.refusal) (called-clean _ _ _ c.in-Ok-wait.ensures.steps c.in-Ok-wait.ensures.refusal))
    c.in-Err-end.ensures.err

pub returns-in-Err-wait-clause-refusal : goal.returns-in-Err-wait-clause-refusal
returns-in-Err-wait-clause-refusal g c =
    then-failed _ _ _ c.in-Err-wait.fault _ (called-clean _ _ _ c.in-Ok.ensures.steps c.in-Ok.ensures.refusal) c.in-Err-wait.ensures.steps c.in-Err-wait.ensures.refusal
