use Rattle.std.proofs.Common.{inr, subst, refl, Ok, Some, None, rules}
use Rattle.std.specs.Prelude.{Err}
use Rattle.database.specs.Obeys.{Finishes}
use Rattle.database.specs.Committing.{IsGivenUp}
use Rattle.database.proofs.Reporting.{is-acknowledged}
use Rattle.database.proofs.Errors.{finish-waits, finish-refused, stops-after}
use Rattle.database.specs.Histories.{Logs, ends_of}
use Rattle.database.proofs.Histories.{in-room}
use Rattle.database.proofs.locked.Locked.answer.Goals as goal

pub returns-in-Ok-Some-clause-some : goal.returns-in-Ok-Some-clause-some
returns-in-Ok-Some-clause-some g c =
    is-acknowledged g.D.Pmem.state c.in-Some.room.room c.finish.new.room.room c.args.session c.in-Ok-Some.timestamp c.in-Some.room.run
    (subst (λ o. Finishes g.D.Pmem.state c.in-Some.room.room c.finish.new.room.room c.args.session (Ok o)) c.in-Ok-Some.field-0-is c.in-Ok-Some.ensures.steps)

pub returns-in-Some-given_up-clause-some : goal.returns-in-Some-given_up-clause-some
returns-in-Some-given_up-clause-some g c =
    stops-after g.D.Pmem.state c.in-Some.room.room c.finish.new.room.room c.args.session c.args.self.now.refusals c.in-Some-given_up.error c.in-Some.room.run
    (subst (λ o. Finishes g.D.Pmem.state c.in-Some.room.room c.finish.new.room.room c.args.session (Ok o)) c.in-Ok-None.field-0-is c.in-Ok-None.ensures.steps)
    (subst (λ e. IsGivenUp e c.args.self.now.refusals c.in-Some-given_up.error) c.finish.ensures.ended c.in-Some-given_up.ensures.some)

pub returns-in-None-clause-none : goal.returns-in-None-clause-none
returns-in-None-clause-none g c there = (
  finish-waits g.D.Pmem.state c.in-Some.room.room c.finish.new.room.room c.args.session c.in-Some.room.run
      (subst (λ o. Finishes g.D.Pmem.state c.in-Some.room.room c.finish.new.room.room c.args.session (Ok o)) c.in-Ok-None.field-0-is c.in-Ok-None.ensures.steps),
  search rules,
  search rules,
)

pub returns-in-Err-clause-some : goal.returns-in-Err-clause-some
returns-in-Err-clause-some g c =
    ∣ inr (finish-refused g.D.Pmem.state c.in-Some.room.room c.finish.new.room.room c.args.session c.in-Err.fault c.in-Some.room.run
    (subst (λ r. Finishes g.D.Pmem.state c.in-Some.room.room c.finish.new.room.room c.args.session r) c.in-Err.is c.finish.ensures.steps)) ∣₁

pub returns-in-Ok-Some-clause-finish : goal.returns-in-Ok-Some-clause-finish
returns-in-Ok-Some-clause-finish g c there =
    (Ok (Some c.in-Ok-Some.timestamp), (c.in-Some.room, c.finish.new.room, c.in-Some.is, refl, subst (λ o. Finishes g.D.Pmem.state c.in-Some.room.room c.finish.new.room.room c.args.session (Ok o)) c.in-Ok-Some.field-0-is c.in-Ok-Some.ensures.steps), refl)

pub returns-in-Some-given_up-clause-finish : goal.returns-in-Some-given_up-clause-finish
returns-in-Some-given_up-clause-finish g c there =
    (Ok None, (c.in-Some.room, c.finish.new.room, c.in-Some.is, refl, subst (λ o. Finishes g.D.Pmem.state c.in-Some.room.room c.finish.new.room.room c.args.session (Ok o)) c.in-Ok-None.field-0-is c.in-Ok-None.ensures.steps), c.in-Some-given_up.ensures.some)

pub returns-in-None-clause-finish : goal.returns-in-None-clause-finish
returns-in-None-clause-finish g c there =
    (Ok None, (c.in-Some.room, c.finish.new.room, c.in-Some.is, refl, subst (λ o. Finishes g.D.Pmem.state c.in-Some.room.room c.finish.new.room.room c.args.session (Ok o)) c.in-Ok-None.field-0-is c.in-Ok-None.ensures.steps), (search rules, search rules))

pub returns-in-Err-clause-finish : goal.returns-in-Err-clause-finish
returns-in-Err-clause-finish g c there =
    (Err c.in-Err.fault, (c.in-Some.room, c.finish.new.room, c.in-Some.is, refl, subst (λ r. Finishes g.D.Pmem.state c.in-Some.room.room c.finish.new.room.room c.args.session r) c.in-Err.is c.finish.ensures.steps), refl)

pub returns-in-Ok-Some-clause-log : goal.returns-in-Ok-Some-clause-log
returns-in-Ok-Some-clause-log g c =
    in-room (λ log. Logs (ends_of c.args.session (Ok (Some c.in-Ok-Some.timestamp))) log c.finish.new.room.log) c.args.self.now.room c.in-Some.room c.in-Some.is
    (subst (λ o. Logs (ends_of c.args.session (Ok o)) c.in-Some.room.log c.finish.new.room.log) c.in-Ok-Some.field-0-is c.in-Ok-Some.ensures.log)

pub returns-in-Some-given_up-clause-log : goal.returns-in-Some-given_up-clause-log
returns-in-Some-given_up-clause-log g c =
    in-room (λ log. Logs (ends_of c.args.session (Ok None)) log c.finish.new.room.log) c.args.self.now.room c.in-Some.room c.in-Some.is
    (subst (λ o. Logs (ends_of c.args.session (Ok o)) c.in-Some.room.log c.finish.new.room.log) c.in-Ok-None.field-0-is c.in-Ok-None.ensures.log)

pub returns-in-None-clause-log : goal.returns-in-None-clause-log
returns-in-None-clause-log g c =
    in-room (λ log. Logs (ends_of c.args.session (Ok None)) log c.finish.new.room.log) c.args.self.now.room c.in-Some.room c.in-Some.is
    (subst (λ o. Logs (ends_of c.args.session (Ok o)) c.in-Some.room.log c.finish.new.room.log) c.in-Ok-None.field-0-is c.in-Ok-None.ensures.log)

pub returns-in-Err-clause-log : goal.returns-in-Err-clause-log
returns-in-Err-clause-log g c =
    in-room (λ log. Logs (ends_of c.args.session (Err c.in-Err.fault)) log c.finish.new.room.log) c.args.self.now.room c.in-Some.room c.in-Some.is
    (subst (λ r. Logs (ends_of c.args.session r) c.in-Some.room.log c.finish.new.room.log) c.in-Err.is c.finish.ensures.log)
