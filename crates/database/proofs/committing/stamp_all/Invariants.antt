use Rattle.std.proofs.Common.{◌≡◌}
use Rattle.base.specs.declared.step.Reply.TheVariants.{More}
use Rattle.base.specs.declared.step.Step.TheVariants.{Stamp}
use Rattle.database.specs.Histories.{LogsStamps}
use Rattle.database.specs.Obeys.{RepeatsAnswered}
use Rattle.database.proofs.committing.stamp_all.Given as goal

-- each stamp so far left more keys
abbrev pub invariant-loop : goal.invariant-loop
invariant-loop g l = record {
  stamps : RepeatsAnswered g.D.Pmem.state l.fn.room.room l.room.room (Stamp l.session) More;
  ended : l.room.ended ≡ l.fn.room.ended;
  log : LogsStamps l.session l.fn.room.log l.room.log;
}
