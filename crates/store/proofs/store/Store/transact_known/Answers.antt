use Rattle.std.proofs.Common.{◌≡◌, ◌-◌, ℕ, inr, refl, subst, arith}
use Rattle.store.specs.Trying.{TriesInVain}
use Rattle.store.specs.Working.{Works}
use Rattle.store.proofs.Trying.{tries-more}
use Rattle.store.proofs.Works.{ended-work}
use Rattle.store.proofs.store.Store.transact_known.Goals as goal

pub loop-made-preserved : goal.loop-made-preserved
loop-made-preserved g c = (
  omega (arith, c.loop-made-test.true),
  tries-more (Works g.W.Work.does) (λ lent. lent.0) c.loop-made._made c.args.work c.loop-made.work c.attempt_known.new.work c.in-Ok-Conflict.field-0-0 c.loop-made.auto._made c.loop-made.invariant.1
      (ended-work g.J.Origin.opened g.J.Origin.kept g.W.Work.does c.loop-made.work c.attempt_known.new.work c.in-Ok-Conflict.field-0 c.in-Ok-Conflict.field-0-0 c.in-Ok-Conflict.field-0-is c.in-Ok-Conflict.ensures.ok),
)

-- each try that was allowed met a conflict
pub returns-in-Ok-Conflict-attempt_known-clause-err : goal.returns-in-Ok-Conflict-attempt_known-clause-err
returns-in-Ok-Conflict-attempt_known-clause-err g c =
    let all : c.loop-made._made - 1 ≡ 1000 - 1 = omega (arith, c.loop-made-test.false, c.loop-made.invariant.0) in
    let last = c.in-Ok-Conflict-attempt_known in
    inr (
      last.key,
      refl,
      c.loop-made.work,
      c.attempt_known-2.new.work,
      subst (λ (n : ℕ). TriesInVain (Works g.W.Work.does) (λ lent. lent.0) n c.args.work c.loop-made.work) all c.loop-made.invariant.1,
      ended-work g.J.Origin.opened g.J.Origin.kept g.W.Work.does c.loop-made.work c.attempt_known-2.new.work last.field-0 last.key last.field-0-is last.ensures.ok,
    )
