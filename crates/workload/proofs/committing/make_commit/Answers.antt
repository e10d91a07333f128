use Rattle.workload.proofs.Acknowledged.{none-then, none-then-one, none-yet}
use Rattle.workload.proofs.Opens.{of-false, of-true}
use Rattle.workload.proofs.committing.make_commit.Goals as goal

pub loop-init : goal.loop-init
loop-init g c = none-yet _ _

pub loop-preserved : goal.loop-preserved
loop-preserved g c = none-then _ _ _ _ _ _ c.loop.invariant (of-false _ _ _ c.in-Ok.ensures.ok c.if-is_made.false)

pub returns-then-is_made-clause-ok : goal.returns-then-is_made-clause-ok
returns-then-is_made-clause-ok g c = none-then-one _ _ _ _ _ c.loop.invariant (of-true _ _ _ c.in-Ok.ensures.ok c.if-is_made.true)
