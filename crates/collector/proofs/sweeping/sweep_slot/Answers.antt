use Rattle.base.specs.Actors.{collector}
use Rattle.base.proofs.Results.{on_err}
use Rattle.version_slot.proofs.Sweeps.{stops-end, stops-flush, runs-sweep}
use Rattle.collector.proofs.sweeping.sweep_slot.Goals as goal

pub returns-in_err-zero_in_gap-2-clause-err : goal.returns-in_err-zero_in_gap-2-clause-err
returns-in_err-zero_in_gap-2-clause-err g c =
    let state = g.D.Pmem.state in
    on_err c.from_residual-in_err-zero_in_gap-2.result
    (stops-end c.args.geometry collector c.args.gaps.now c.args.slot c.slot_start-start.result 0 (state c.args.device.now) (state c.zero_in_gap.new.device) c.slot_start-start.ensures.value c.in_ok-zero_in_gap.ensures.ok (state c.zero_in_gap-2.new.device) c.in_err-zero_in_gap-2.ensures.err)

pub returns-in_err-flush-clause-err : goal.returns-in_err-flush-clause-err
returns-in_err-flush-clause-err g c =
    let state = g.D.Pmem.state in
    let orderly = g.met.D.Pmem.orderly in
    on_err c.from_residual-in_err-flush.result
    (stops-flush c.args.geometry collector c.args.gaps.now c.args.slot c.slot_start-start.result 0 (state c.args.device.now) (state c.zero_in_gap.new.device) c.slot_start-start.ensures.value c.in_ok-zero_in_gap.ensures.ok
    (state c.zero_in_gap-2.new.device) c.in_ok-zero_in_gap-2.ensures.ok (state c.flush.new.self) (orderly c.zero_in_gap-2.new.device) (orderly c.flush.new.self) c.in_err-flush.ensures.err)

pub returns-clause-ok : goal.returns-clause-ok
returns-clause-ok g c =
    let state = g.D.Pmem.state in
    let orderly = g.met.D.Pmem.orderly in
    runs-sweep c.args.geometry collector c.args.gaps.now c.args.slot c.slot_start-start.result c.slot_line.result (state c.args.device.now) (state c.zero_in_gap.new.device) c.slot_start-start.ensures.value c.in_ok-zero_in_gap.ensures.ok
    (state c.zero_in_gap-2.new.device) c.in_ok-zero_in_gap-2.ensures.ok (state c.flush.new.self) (orderly c.zero_in_gap-2.new.device) (orderly c.flush.new.self) c.slot_line.ensures.value c.in_ok-flush.ensures.ok
