use Rattle.std.proofs.Common.{◌≡◌}
use Rattle.base.specs.declared.step.Step.TheVariants.{Collect}
use Rattle.database.specs.Obeys.{Repeats}
use Rattle.database.proofs.turns.visit_some.Given as goal

abbrev pub invariant-loop : goal.invariant-loop
invariant-loop g l = record {
  visits : Repeats g.D.Pmem.state l.fn.room.room l.room.room Collect;
  ended : l.room.ended ≡ l.fn.room.ended;
}
