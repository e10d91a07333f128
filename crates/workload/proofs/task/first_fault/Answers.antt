use Rattle.std.proofs.Common.{sym}
use Rattle.std.proofs.lemmas.List.{take_all}
use Rattle.workload.proofs.Tasked.{none-all, none-more}
use Rattle.workload.proofs.task.first_fault.Goals as goal

pub returns-in-Some-clause-some : goal.returns-in-Some-clause-some
returns-in-Some-clause-some g c = (c.loop-task.task-index, c.task-item.result, c.loop-task-test.true, sym c.task-item.is, c.in-Some.is)

pub loop-task-preserved : goal.loop-task-preserved
loop-task-preserved g c = none-more c.args.tasks.now c.loop-task.task-index c.task-item.result c.loop-task-test.true c.task-item.is c.in-None.is c.loop-task.invariant

pub returns-clause-none : goal.returns-clause-none
returns-clause-none g c = none-all c.args.tasks.now _ (take_all c.loop-task.task-index c.args.tasks.now c.loop-task-test.false) c.loop-task.invariant
