use Rattle.std.proofs.Common.{◌≡◌, None, take}
use Rattle.std.specs.Prelude.{All}
use Rattle.workload.proofs.task.first_fault.Given as goal

-- none so far
abbrev pub invariant-loop-task : goal.invariant-loop-task
invariant-loop-task g l = All (λ task. task.fault ≡ None) (take l.task-index l.tasks)
