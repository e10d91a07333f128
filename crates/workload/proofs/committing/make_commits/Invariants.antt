use Rattle.workload.specs.Load.{Makes}
use Rattle.workload.proofs.committing.make_commits.Given as goal

-- that many are made so far
abbrev pub invariant-loop-made : goal.invariant-loop-made
invariant-loop-made g l = Makes l.made l.session.receipts.items
