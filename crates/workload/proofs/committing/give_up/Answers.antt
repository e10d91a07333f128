use Rattle.std.proofs.Common.{sym, ap, ◌∙◌}
use Rattle.workload.specs.Load.{pending}
use Rattle.workload.proofs.Acknowledged.{aborted-none, none-then, not-aborted-none}
use Rattle.workload.proofs.committing.give_up.Goals as goal

pub returns-in-Ok-clause-ok : goal.returns-in-Ok-clause-ok
returns-in-Ok-clause-ok g c = none-then _ _ _ _ _ _ c.loop.invariant (aborted-none _ _ _ _ _ (ap pending (sym c.phase.ensures.phase ∙ c.in-Active.is)) c.in-Ok.ensures.ok.0)

pub loop-preserved : goal.loop-preserved
loop-preserved g c = none-then _ _ _ _ _ _ c.loop.invariant (not-aborted-none _ _ _ _ _ c.in-Err.fault c.in-Err.ensures.phase c.in-Err.ensures.err)
