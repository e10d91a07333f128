use Rattle.base.specs.Actors.{committer}
use Rattle.base.specs.Records.{opened_gaps}
use Rattle.base.proofs.Results.{on_err}
use Rattle.version_slot.proofs.Sweeps.{stops-begin, stops-end, stops-flush, runs-sweep}
use Rattle.recovery.proofs.sweeping.sweep_slot.Goals as goal

pub returns-in_err-zero_in_gap-clause-stopped : goal.returns-in_err-zero_in_gap-clause-stopped
returns-in_err-zero_in_gap-clause-stopped g c =
    let state = g.D.Pmem.state in
    on_err c.from_residual.result
    (stops-begin c.args.geometry committer (opened_gaps c.args.ruling) c.args.slot c.slot_start-start.result (state c.args.device.now) (state c.zero_in_gap.new.device) c.slot_start-start.ensures.value c.in_err-zero_in_gap.ensures.stopped)

pub returns-in_err-zero_in_gap-2-clause-stopped : goal.returns-in_err-zero_in_gap-2-clause-stopped
returns-in_err-zero_in_gap-2-clause-stopped g c =
    let state = g.D.Pmem.state in
    on_err c.from_residual-in_err-zero_in_gap-2.result
    (stops-end c.args.geometry committer (opened_gaps c.args.ruling) c.args.slot c.slot_start-start.result 0 (state c.args.device.now) (state c.zero_in_gap.new.device) c.slot_start-start.ensures.value c.in_ok-zero_in_gap.ensures.run (state c.zero_in_gap-2.new.device) c.in_err-zero_in_gap-2.ensures.stopped)

pub returns-in_err-flush-clause-stopped : goal.returns-in_err-flush-clause-stopped
returns-in_err-flush-clause-stopped g c =
    let state = g.D.Pmem.state in
    let orderly = g.met.D.Pmem.orderly in
    on_err c.from_residual-in_err-flush.result
    (stops-flush c.args.geometry committer (opened_gaps c.args.ruling) c.args.slot c.slot_start-start.result 0 (state c.args.device.now) (state c.zero_in_gap.new.device) c.slot_start-start.ensures.value c.in_ok-zero_in_gap.ensures.run
    (state c.zero_in_gap-2.new.device) c.in_ok-zero_in_gap-2.ensures.run (state c.flush.new.self) (orderly c.zero_in_gap-2.new.device) (orderly c.flush.new.self) c.in_err-flush.ensures.err)

pub returns-clause-run : goal.returns-clause-run
returns-clause-run g c =
    let state = g.D.Pmem.state in
    let orderly = g.met.D.Pmem.orderly in
    runs-sweep c.args.geometry committer (opened_gaps c.args.ruling) c.args.slot c.slot_start-start.result c.slot_line.result (state c.args.device.now) (state c.zero_in_gap.new.device) c.slot_start-start.ensures.value c.in_ok-zero_in_gap.ensures.run
    (state c.zero_in_gap-2.new.device) c.in_ok-zero_in_gap-2.ensures.run (state c.flush.new.self) (orderly c.zero_in_gap-2.new.device) (orderly c.flush.new.self) c.slot_line.ensures.value c.in_ok-flush.ensures.ok
