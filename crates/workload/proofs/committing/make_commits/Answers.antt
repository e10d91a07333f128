use Rattle.std.proofs.Common.{sym, ◌∙◌}
use Rattle.workload.proofs.Acknowledged.{makes-one, makes-zero}
use Rattle.workload.proofs.committing.make_commits.Goals as goal

pub loop-made-init : goal.loop-made-init
loop-made-init g c = makes-zero _ c.requires.fresh

pub loop-made-preserved : goal.loop-made-preserved
loop-made-preserved g c = makes-one _ _ _ _ c.loop-made.invariant c.in-Ok.ensures.ok (sym c.make_commit.new.session.phase_is ∙ c.in-Ok.ensures.closed)
