use Rattle.std.proofs.Common.{◌≡◌, ◌≤◌, ◌-◌}
use Rattle.base.specs.declared.step.Step.TheVariants.{Collect}
use Rattle.database.specs.Histories.{LogsQuiet}
use Rattle.database.specs.Obeys.{RepeatsTimes}
use Rattle.database.proofs.steps.collect.Given as goal

-- all but this many visits are made
abbrev pub invariant-loop-left : goal.invariant-loop-left
invariant-loop-left g l = record {
  within : l.left ≤ l.places;
  visits : RepeatsTimes g.D.Pmem.state l.initial.room.room l.room.room Collect (l.places - l.left);
  ended : l.room.ended ≡ l.initial.room.ended;
  log : LogsQuiet l.initial.room.log l.room.log;
}

abbrev pub decreases-loop-left : goal.decreases-loop-left
decreases-loop-left g l = l.left
