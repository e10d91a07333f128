use Rattle.pmem.proofs.Traces.{stops-then}
use Rattle.session_steps.proofs.stamp.stamp_write.Goals as goal

pub returns-in-Err-stamp_ended-clause-err : goal.returns-in-Err-stamp_ended-clause-err
returns-in-Err-stamp_ended-clause-err g c = stops-then c.in-Ok.ensures.ok c.in-Err-stamp_ended.ensures.err
