use Rattle.workload.specs.Load.{MakesNone}
use Rattle.workload.proofs.committing.make_commit.Given as goal

-- nothing is made so far
abbrev pub invariant-loop : goal.invariant-loop
invariant-loop g l = MakesNone l.fn.session.phase l.fn.session.receipts.items l.session.phase l.session.receipts.items
