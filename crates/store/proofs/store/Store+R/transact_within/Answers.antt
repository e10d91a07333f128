use Rattle.std.proofs.Common.{arith}
use Rattle.store.proofs.Trying.{tries-more, ended-conflict}
use Rattle.store.proofs.store.Store+R.transact_within.Goals as goal

pub loop-made-preserved : goal.loop-made-preserved
loop-made-preserved g c = (
  c.attempt.ensures.callable,
  omega (arith, c.loop-made-test.true),
  tries-more (goal.F-step g) (λ lent. lent.now.snapshot.reads.session) c.loop-made._made c.args.changes c.loop-made.changes c.attempt.new.changes c.in-Ok-Conflict.field-0-0
      c.loop-made.auto._made c.loop-made.invariant.2
      (ended-conflict (goal.F-step g) (λ lent. lent.now.snapshot.reads.session) c.loop-made.changes c.attempt.new.changes c.in-Ok-Conflict.field-0 c.in-Ok-Conflict.field-0-0
      c.in-Ok-Conflict.field-0-is c.in-Ok-Conflict.ensures.ok),
)
