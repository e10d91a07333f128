use Rattle.std.proofs.Common.{inl, inr, refl, of_calls}
use Rattle.store.proofs.store.Store+R.attempt.Goals as goal

pub returns-in-Ok-commit-clause-ok : goal.returns-in-Ok-commit-clause-ok
returns-in-Ok-commit-clause-ok g c = record {
  session = c.changes.new.arg2.snapshot.reads.session;
  calls = record { lent = _; left = _; begun = c.in_ok-transaction.ensures.ok; called = c.in-Ok.ensures; leaves = refl };
  reported = c.in-Ok-commit.ensures.ok;
}

pub returns-in-Conflict-clause-ok : goal.returns-in-Conflict-clause-ok
returns-in-Conflict-clause-ok g c = record {
  value = c.in-Ok.value;
  session = c.changes.new.arg2.snapshot.reads.session;
  calls = record { lent = _; left = _; begun = c.in_ok-transaction.ensures.ok; called = c.in-Ok.ensures; leaves = refl };
  refused = (c.in-Err-commit.ensures.err.conflict c.in-Conflict.key c.in-Conflict.is).0;
  settled = (c.in-Err-commit.ensures.err.conflict c.in-Conflict.key c.in-Conflict.is).1;
}

pub returns-in-Ok : goal.returns-in-Ok
returns-in-Ok g c = record {
  callable = search of_calls;
  ok = tt;
  err = inr (inr (
    c.in-Ok.value,
    c.changes.new.arg2.snapshot.reads.session,
    c.changes.new.self,
    record { lent = _; left = _; begun = c.in_ok-transaction.ensures.ok; called = c.in-Ok.ensures; leaves = refl },
    c.in-Err-commit.ensures.err,
    c.in_default.not-Conflict,
  ));
}

pub returns-clause-err : goal.returns-clause-err
returns-clause-err g c = inr (inl (
  c.changes.new.arg2.snapshot.reads.session,
  c.changes.new.self,
  record { lent = _; left = _; begun = c.in_ok-transaction.ensures.ok; called = c.in-Err.ensures; leaves = refl },
  (c.abort.result, c.abort.ensures),
))
