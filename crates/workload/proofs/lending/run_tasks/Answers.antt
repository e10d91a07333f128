use Rattle.workload.proofs.Tasked.{some-of}
use Rattle.workload.proofs.lending.run_tasks.Goals as goal

pub returns-clause-some : goal.returns-clause-some
returns-clause-some g c = some-of _ _ _ c.as_slice.ensures.value c.first_fault.ensures.some
