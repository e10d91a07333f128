use Rattle.std.proofs.Common.{sym, ◌∙◌, ap}
use Rattle.room.specs.Closing.{ClosePhaseDone}
use Rattle.room.specs.Ticks.{as_reply}
use Rattle.room.proofs.closes.Parts.{part_refl, part_trans, failed_after, shown_after}
use Rattle.room.proofs.closes.Ticks.{tick-done, tick-failed, unrefused-reply}
use Rattle.room.proofs.volatile.VolatileState.finish_cycle.Goals as goal

pub loop-self-init : goal.loop-self-init
loop-self-init g c = part_refl c.args.self.now (g.D.Pmem.state c.args.device.now) (g.met.D.Pmem.orderly _)

pub advance-requires-clause-shown : goal.advance-requires-clause-shown
advance-requires-clause-shown g c =
    shown_after c.args.self.now c.loop-self.self c.loop-self.self (g.D.Pmem.state c.args.device.now) (g.D.Pmem.state c.loop-self.device) (g.D.Pmem.state c.loop-self.device) c.loop-self.invariant c.requires.shown

pub returns-in-Err-clause-err : goal.returns-in-Err-clause-err
returns-in-Err-clause-err g c =
    let state = g.D.Pmem.state in
    let done : ClosePhaseDone c.args.self.now c.loop-self.self (state c.args.device.now) (state c.loop-self.device) = c.loop-self.invariant in
    failed_after c.args.self.now c.loop-self.self c.advance.new.self (state c.args.device.now) (state c.loop-self.device) (state c.advance.new.device) done c.in-Err.fault
    (tick-failed c.loop-self.self c.advance.new.self (state c.loop-self.device) (state c.advance.new.device) (as_reply c.advance.result c.advance.new.self.covered) (sym c.is_some.ensures ∙ c.loop-self-test.true)
    (shown_after c.args.self.now c.loop-self.self c.loop-self.self (state c.args.device.now) (state c.loop-self.device) (state c.loop-self.device) done c.requires.shown)
    c.advance.ensures.step c.in-Err.fault (ap (λ r. as_reply r c.advance.new.self.covered) c.in-Err.is))

pub loop-self-preserved : goal.loop-self-preserved
loop-self-preserved g c =
    let state = g.D.Pmem.state in
    let done : ClosePhaseDone c.args.self.now c.loop-self.self (state c.args.device.now) (state c.loop-self.device) = c.loop-self.invariant in
    part_trans c.args.self.now c.loop-self.self c.advance.new.self (state c.args.device.now) (state c.loop-self.device) (state c.advance.new.device) done
    (tick-done c.loop-self.self c.advance.new.self (state c.loop-self.device) (state c.advance.new.device) (as_reply c.advance.result c.advance.new.self.covered) (sym c.is_some.ensures ∙ c.loop-self-test.true)
    (shown_after c.args.self.now c.loop-self.self c.loop-self.self (state c.args.device.now) (state c.loop-self.device) (state c.loop-self.device) done c.requires.shown)
    c.advance.ensures.step (unrefused-reply c.advance.result c.advance.new.self.covered c.in_default.not-Err))
