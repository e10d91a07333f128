use Rattle.std.proofs.Common.{ℕ, inl, inr, refl, subst}
use Rattle.database.specs.Histories.{HasCommitted}
use Rattle.store.proofs.Works.{keeps-writes}
use Rattle.store.proofs.store.Store.attempt_known.Goals as goal

pub returns-in-Ok-commit_known-clause-ok : goal.returns-in-Ok-commit_known-clause-ok
returns-in-Ok-commit_known-clause-ok g c =
    let worked = c.in-Ok.ensures.works in
    let lent = c.in_ok-transaction.transaction.snapshot.reads in
    let left = c.run.new.transaction.snapshot.reads in
    record {
      session = left.session;
      calls = record { lent = _; left = _; begun = c.in_ok-transaction.ensures.ok; called = worked; leaves = refl };
      begun = c.in_ok-transaction.ensures.begun;
      reported = c.in-Ok-commit_known.ensures.ok;
      committed = c.in-Ok-commit_known.ensures.history;
      keeps =
          keeps-writes g.J.Origin.opened g.J.Origin.kept lent.session worked.0 lent.trace left.trace c.in-Ok-commit_known.done.timestamp c.in-Ok-commit_known.done.front c.in_ok-transaction.ensures.begun worked.3
          (subst (λ (n : ℕ). HasCommitted g.J.Origin.opened n left.trace c.in-Ok-commit_known.done.timestamp c.in-Ok-commit_known.done.front) worked.2 c.in-Ok-commit_known.ensures.history);
      found = c.in-Ok-commit_known.ensures.found;
    }

pub returns-in-Conflict-clause-ok : goal.returns-in-Conflict-clause-ok
returns-in-Conflict-clause-ok g c = record {
  value = c.in-Ok.value;
  session = c.run.new.transaction.snapshot.reads.session;
  calls = record { lent = _; left = _; begun = c.in_ok-transaction.ensures.ok; called = c.in-Ok.ensures.works; leaves = refl };
  refused = (c.in-Err-commit_known.ensures.err.conflict c.in-Conflict.key c.in-Conflict.is).0;
  settled = (c.in-Err-commit_known.ensures.err.conflict c.in-Conflict.key c.in-Conflict.is).1;
}

pub returns-in-Ok : goal.returns-in-Ok
returns-in-Ok g c = record {
  ok = tt;
  err = inr (inr (
    c.in-Ok.value,
    c.run.new.transaction.snapshot.reads.session,
    c.run.new.self,
    record { lent = _; left = _; begun = c.in_ok-transaction.ensures.ok; called = c.in-Ok.ensures.works; leaves = refl },
    c.in-Err-commit_known.ensures.err,
    c.in_default.not-Conflict,
  ));
}

pub returns-clause-err : goal.returns-clause-err
returns-clause-err g c = inr (inl (
  c.run.new.transaction.snapshot.reads.session,
  c.run.new.self,
  record { lent = _; left = _; begun = c.in_ok-transaction.ensures.ok; called = c.in-Err.ensures.works; leaves = refl },
  (c.abort.result, c.abort.ensures),
))
