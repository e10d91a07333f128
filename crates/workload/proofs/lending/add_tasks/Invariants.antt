use Rattle.std.proofs.Common.{◌≡◌, ◌≤◌}
use Rattle.std.specs.Vec.{vec_len, vec_capacity}
use Rattle.workload.specs.Tasks.{AreFresh}
use Rattle.workload.proofs.lending.add_tasks.Given as goal

abbrev pub invariant-loop : goal.invariant-loop
invariant-loop g l = record {
  len : vec_len l.tasks ≡ l.counter;
  room : l.count ≤ vec_capacity l.tasks;
  fresh : AreFresh l.tasks.items;
}
