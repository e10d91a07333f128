use Rattle.std.proofs.Common.{◌≡◌, ◌+◌, ◌≤◌, ◌++◌, length}
use Rattle.std.specs.Vec.{vec_capacity, vec_len}
use Rattle.std.specs.Vec.Iter.{into_iter_items}
use Rattle.workload.specs.Tasks.{sessions_in}
use Rattle.workload.proofs.task.into_sessions.Given as goal

-- those so far, with those that are left, and there is room for them
abbrev pub invariant-loop-task : goal.invariant-loop-task
invariant-loop-task g l = (goal.iterator-loop-task g).can_next l.task-iterator
    × (goal.iterator-loop-task g).is_finite l.task-iterator
    × (l.sessions.items ++ sessions_in (into_iter_items l.task-iterator) ≡ sessions_in l.fn.tasks.items)
    × (vec_len l.sessions + length (into_iter_items l.task-iterator) ≤ vec_capacity l.sessions)
