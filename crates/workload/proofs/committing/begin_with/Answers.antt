use Rattle.workload.proofs.Acknowledged.{begun-none, none-then, not-begun-none, put-none}
use Rattle.workload.proofs.committing.begin_with.Goals as goal

pub returns-in-Ok-clause-none : goal.returns-in-Ok-clause-none
returns-in-Ok-clause-none g c =
    none-then _ _ _ _ _ _ (begun-none _ _ _ _ c.in-Ok.ensures.ok.0 c.in-Ok.ensures.ok.1 c.in-Ok.ensures.ok.2)
    (put-none _ _ _ _ _ c.args.key c.args.row c.put.result c.put.ensures.phase c.put.ensures.ok c.put.ensures.err)

pub returns-in-Err-clause-none : goal.returns-in-Err-clause-none
returns-in-Err-clause-none g c = not-begun-none _ _ _ _ c.in-Err.fault c.in-Err.ensures.phase c.in-Err.ensures.err
