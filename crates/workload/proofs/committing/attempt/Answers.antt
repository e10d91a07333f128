use Rattle.workload.proofs.Acknowledged.{gives-up}
use Rattle.workload.proofs.committing.attempt.Goals as goal

pub returns-in-Err-step_back-clause-err : goal.returns-in-Err-step_back-clause-err
returns-in-Err-step_back-clause-err g c = gives-up g.J.Origin.image _ _ _ _ c.in-Err.fault _ c.in-Err.ensures.err c.in-Err-step_back.ensures.err
