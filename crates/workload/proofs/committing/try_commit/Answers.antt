use Rattle.std.proofs.Common.{ap, inl, inr, refl}
use Rattle.std.specs.Prelude.{is_some}
use Rattle.engine.specs.Origins.{Knows}
use Rattle.workload.proofs.Acknowledged.{commit-none, commit-some, none-then, refused-called, reports-nothing}
use Rattle.workload.proofs.committing.try_commit.Goals as goal

pub returns-in-Some-clause-ok : goal.returns-in-Some-clause-ok
returns-in-Some-clause-ok g c = commit-some _ _ _ _ _ c.in-Ok-commit.committed c.in-Ok.ensures.none c.in-Ok-commit.ensures.steps (ap is_some c.in-Some.is)

pub returns-in-Err-commit-clause-none : goal.returns-in-Err-commit-clause-none
returns-in-Err-commit-clause-none g c passes =
    none-then _ _ _ _ _ _ c.in-Ok.ensures.none (commit-none (Knows g.J.Origin.image _) _ _ _ _ c.in-Err-commit.fault c.in-Ok.ensures.is_open c.in-Err-commit.ensures.steps c.in-Err-commit.ensures.phase)

pub returns-in-Err-commit-clause-err : goal.returns-in-Err-commit-clause-err
returns-in-Err-commit-clause-err g c = refused-called (Knows g.J.Origin.image _) _ _ _ _ _ c.in-Ok.ensures.is_open c.in-Err-commit.ensures.steps

pub returns-in-None-clause-err : goal.returns-in-None-clause-err
returns-in-None-clause-err g c = inr (inl (refl, reports-nothing _ _ _ c.in-Ok-commit.committed _ c.in-None.is c.in-Ok-commit.ensures.steps))
