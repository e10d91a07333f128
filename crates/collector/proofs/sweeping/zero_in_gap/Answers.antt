use Rattle.std.proofs.Common.{sym, ◌∙◌, ap}
use Rattle.base.specs.Records.{is_in}
use Rattle.base.proofs.Results.{on_err}
use Rattle.pmem.specs.Words.{value_of}
use Rattle.version_slot.proofs.Sweeps.{zero-stops}
use Rattle.collector.proofs.sweeping.zero_in_gap.Goals as goal

pub returns-in_err-store-clause-err : goal.returns-in_err-store-clause-err
returns-in_err-store-clause-err g c =
    let state = g.D.Pmem.state in
    let orderly = g.met.D.Pmem.orderly in
    on_err c.from_residual.result
    (zero-stops c.args.gaps.now c.args.word (value_of (state c.args.device.now) c.args.word) (state c.args.device.now) (state c.store.new.self) (ap (is_in c.args.gaps.now) (sym c.load.ensures) ∙ sym c.holds.ensures ∙ c.if-holds.true)
    (orderly c.args.device.now) (orderly c.store.new.self) c.in_err-store.ensures.err)
