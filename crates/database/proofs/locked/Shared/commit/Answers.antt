use Rattle.std.proofs.Common.{ℕ, ◌∙◌, ap, inl, inr, subst, Ok}
use Rattle.std.specs.Prelude.{⊤, Option, Result, Err, IfOk, IfErr}
use Rattle.database.specs.declared.error.CommitError.{CommitError}
use Rattle.database.specs.Committing.{IsPrepared, IsAnsweredAt, ReportsUnprepared}
use Rattle.database.specs.Histories.{PreparesAfter}
use Rattle.database.proofs.Histories.{committed-after}
use Rattle.database.proofs.locked.Shared.commit.Goals as goal

pub returns-in-Ok-answer-clause-ok : goal.returns-in-Ok-answer-clause-ok
returns-in-Ok-answer-clause-ok g c = (
  subst (λ (r : Result (Option ℕ) CommitError). IfOk r (λ drawn. IsPrepared c.args.session (Ok drawn))) (c.in-Ok.is ∙ ap Ok c.in-Some.is) c.prepare-locked.ensures.ok,
  subst (λ (r : Result ⊤ CommitError). IsAnsweredAt c.args.session c.in-Some.timestamp r) c.in-Ok-answer.is c.wait-answer.ensures,
)

pub returns-in-Ok-answer-clause-history : goal.returns-in-Ok-answer-clause-history
returns-in-Ok-answer-clause-history g c =
    committed-after g.J.Origin.opened c.args.session c.in-Some.timestamp c.args.trace c.prepare-locked.result.3 c.end_after.result
    (subst (λ (r : Result (Option ℕ) CommitError). IfOk r (λ drawn. PreparesAfter g.J.Origin.opened c.args.session c.args.trace drawn c.prepare-locked.result.3)) (c.in-Ok.is ∙ ap Ok c.in-Some.is) c.prepare-locked.ensures.history)
    c.end_after.ensures

pub returns-in-Ok-clause-ok : goal.returns-in-Ok-clause-ok
returns-in-Ok-clause-ok g c =
    subst (λ (r : Result (Option ℕ) CommitError). IfOk r (λ drawn. IsPrepared c.args.session (Ok drawn))) (c.in-Ok.is ∙ ap Ok c.in-None.is) c.prepare-locked.ensures.ok

pub returns-in-Some-clause-err : goal.returns-in-Some-clause-err
returns-in-Some-clause-err g c = inr (
  c.in-Some.timestamp,
  subst (λ (r : Result (Option ℕ) CommitError). IfOk r (λ drawn. IsPrepared c.args.session (Ok drawn))) (c.in-Ok.is ∙ ap Ok c.in-Some.is) c.prepare-locked.ensures.ok,
  subst (λ (r : Result ⊤ CommitError). IsAnsweredAt c.args.session c.in-Some.timestamp r) c.in-Err-answer.is c.wait-answer.ensures,
)

pub returns-clause-err : goal.returns-clause-err
returns-clause-err g c = inl (
  subst (λ (r : Result (Option ℕ) CommitError). IfErr r (ReportsUnprepared c.args.session)) c.in-Err.is c.prepare-locked.ensures.err,
  c.give_way.ensures.given,
  λ key is. (_, c.prepare-locked.ensures.conflict key (c.in-Err.is ∙ ap Err is), c.give_way.ensures.late key is),
)
