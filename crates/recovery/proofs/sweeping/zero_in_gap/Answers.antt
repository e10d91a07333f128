use Rattle.std.proofs.Common.{sym, ◌∙◌, ap}
use Rattle.base.specs.Records.{is_in, opened_gaps}
use Rattle.base.proofs.Results.{on_err}
use Rattle.pmem.specs.Words.{value_of}
use Rattle.version_slot.proofs.Sweeps.{zero-stops}
use Rattle.recovery.proofs.sweeping.zero_in_gap.Goals as goal

pub returns-in_err-store-clause-stopped : goal.returns-in_err-store-clause-stopped
returns-in_err-store-clause-stopped g c =
    let state = g.D.Pmem.state in
    let orderly = g.met.D.Pmem.orderly in
    on_err c.from_residual.result
    (zero-stops (opened_gaps c.args.ruling) c.args.word (value_of (state c.args.device.now) c.args.word) (state c.args.device.now) (state c.store.new.self) (ap (is_in (opened_gaps c.args.ruling)) (sym c.load.ensures) ∙ sym c.lies_in_gap.ensures ∙ c.if-lies_in_gap.true)
    (orderly c.args.device.now) (orderly c.store.new.self) c.in_err-store.ensures.err)
