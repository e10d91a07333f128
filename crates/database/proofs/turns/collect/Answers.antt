use Rattle.base.specs.declared.step.Step.TheVariants.{Collect}
use Rattle.database.proofs.Covering.{stays-in}
use Rattle.database.proofs.turns.collect.Goals as goal

pub returns-then-not-is_round_due-clause-visits : goal.returns-then-not-is_round_due-clause-visits
returns-then-not-is_round_due-clause-visits g c there = stays-in g.D.Pmem.state c.args.locked.now.room Collect g.met.D.Pmem.orderly there
