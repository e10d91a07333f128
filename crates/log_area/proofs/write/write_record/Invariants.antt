use Rattle.std.proofs.Common.{◌-◌}
use Rattle.log_area.specs.Stages.{operations_before}
use Rattle.log_area.proofs.Whole.{IsWritten}
use Rattle.log_area.proofs.write.write_record.Given as goal

abbrev pub invariant-loop-writing : goal.invariant-loop-writing
invariant-loop-writing g l = IsWritten l.fn.geometry l.fn.target l.writing (g.D.Pmem.state l.initial.device) (g.D.Pmem.state l.device)

abbrev pub decreases-loop-writing : goal.decreases-loop-writing
decreases-loop-writing g l = 39 - operations_before l.writing.stage
