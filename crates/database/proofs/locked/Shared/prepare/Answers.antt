use Rattle.std.proofs.Common.{◌∙◌, ap, inr, refl, subst, sym, true≢false}
use Rattle.std.specs.Prelude.{Err}
use Rattle.base.specs.declared.fault.Fault.TheVariants.{WindowFull}
use Rattle.database.specs.declared.error.CommitError.TheVariants.{Refused}
use Rattle.database.specs.Obeys.{Prepares}
use Rattle.database.proofs.Reporting.{is-prepared, prepared-ok, prepared-err, conflicts-at}
use Rattle.database.proofs.Histories.{prepares-in}
use Rattle.database.proofs.locked.Shared.prepare.Goals as goal

pub returns-then-not-is_full-clause-ok : goal.returns-then-not-is_full-clause-ok
returns-then-not-is_full-clause-ok g c =
    prepared-ok g.D.Pmem.state c.in-Some-room.room.room c.prepare-prepared.new.room.room c.args.session c.prepare-prepared.result c.in-Some-room.room.run c.prepare-prepared.ensures.steps

pub returns-then-not-is_full-clause-err : goal.returns-then-not-is_full-clause-err
returns-then-not-is_full-clause-err g c =
    prepared-err g.D.Pmem.state c.in-Some-room.room.room c.prepare-prepared.new.room.room c.args.session c.prepare-prepared.result c.in-Some-room.room.run c.prepare-prepared.ensures.steps
    (λ is. true≢false (sym (c.is_full.ensures.1 is) ∙ c.if-not-is_full.true))

pub returns-then-not-is_full-clause-conflict : goal.returns-then-not-is_full-clause-conflict
returns-then-not-is_full-clause-conflict g c key is =
    conflicts-at g.D.Pmem.state c.in-Some-room.room.room c.prepare-prepared.new.room.room c.args.session key c.last_drawn-drawn.result c.in-Some-room.room.run
    (subst (λ r. Prepares g.D.Pmem.state c.in-Some-room.room.room c.prepare-prepared.new.room.room c.args.session r) is c.prepare-prepared.ensures.steps) c.last_drawn-drawn.ensures

pub returns-then-lacks_memory-clause-err : goal.returns-then-lacks_memory-clause-err
returns-then-lacks_memory-clause-err g c = inr (inr (
  refl,
  c.lacks_memory.ensures.so c.if-lacks_memory.true,
  is-prepared g.D.Pmem.state c.in-Some-room.room.room c.prepare-prepared.new.room.room c.args.session (Err (Refused WindowFull)) c.in-Some-room.room.run
      (subst (λ r. Prepares g.D.Pmem.state c.in-Some-room.room.room c.prepare-prepared.new.room.room c.args.session r) (c.is_full.ensures.0 c.if-not-is_full.false) c.prepare-prepared.ensures.steps),
))

pub returns-then-not-is_full-clause-history : goal.returns-then-not-is_full-clause-history
returns-then-not-is_full-clause-history g c =
    prepares-in g.J.Origin.opened c.args.session c.args.trace.now c.prepare-prepared.result c.is_some.result c.known_if-front.result c.deref-in-loop.result.now.room _ c.deref-then-not-is_full.result.now.room c.in-Some-room.room c.prepare-prepared.new.room
    c.attend.ensures c.known_if-front.ensures c.is_some.ensures c.in-Some-room.is c.prepare-prepared.ensures.log c.prepare-prepared.ensures.next (cc) (ap (λ d. d.room) c.deref-then-not-is_full.ensures)
