use Rattle.std.proofs.Common.{◌≡◌, Bool, false}
use Rattle.std.proofs.lemmas.Result.{on_ok_weaker}
use Rattle.base.specs.declared.fault.Fault.{Fault}
use Rattle.machine.specs.Machine.{State}
use Rattle.base.proofs.Results.{reported}
use Rattle.room.specs.Committing.{Shows}
use Rattle.room.specs.Closing.{ClosePhaseDone, IsClosingRefusal}
use Rattle.room.proofs.closes.Parts.{part_trans, failed_after, last_after, shown_after}
use Rattle.room.proofs.closes.Whole.{some-below, unmoved, may-close, refused-part, numbered-last, images-last, refused-last, on_ok-from}
use Rattle.room.proofs.volatile.VolatileState.close.Goals as goal

pub closing_gate-requires : goal.closing_gate-requires
closing_gate-requires g c = some-below c.args.self.now (g.D.Pmem.state c.args.device.now) c.requires.shown

pub returns-then-closing_gate-ge-NUMBER_LIMIT-clause-images : goal.returns-then-closing_gate-ge-NUMBER_LIMIT-clause-images
returns-then-closing_gate-ge-NUMBER_LIMIT-clause-images g c =
    let state = g.D.Pmem.state in
    unmoved c.args.self.now (state c.args.device.now) c.closing_gate.result c.closing_gate.ensures (g.met.D.Pmem.orderly _)

pub returns-in_err-finish_cycle-clause-fault : goal.returns-in_err-finish_cycle-clause-fault
returns-in_err-finish_cycle-clause-fault g c =
    let state = g.D.Pmem.state in
    reported c.from_residual.result _ (λ (fault : Fault). (q : State) → Shows c.args.self.now (state c.args.device.now) q → ◌≡◌ {A = Bool} q.failed false → IsClosingRefusal q (state c.args.device.now) (state c.finish_cycle.new.device) fault) c.from_residual.ensures.1
    (refused-part c.args.self.now (state c.args.device.now) c.closing_gate.result c.closing_gate.ensures c.if-closing_gate-ge-NUMBER_LIMIT.false (state c.finish_cycle.new.device) _ c.in_err-finish_cycle.ensures.err)

pub stamp_rest-requires-clause-shown : goal.stamp_rest-requires-clause-shown
stamp_rest-requires-clause-shown g c =
    let state = g.D.Pmem.state in
    shown_after c.args.self.now c.finish_cycle.new.self c.finish_cycle.new.self (state c.args.device.now) (state c.finish_cycle.new.device) (state c.finish_cycle.new.device) c.in_ok-finish_cycle.ensures.ok c.requires.shown

pub returns-in_err-stamp_rest-clause-images : goal.returns-in_err-stamp_rest-clause-images
returns-in_err-stamp_rest-clause-images g c =
    let state = g.D.Pmem.state in
    (failed_after c.args.self.now c.finish_cycle.new.self c.stamp_rest.new.self (state c.args.device.now) (state c.finish_cycle.new.device) (state c.stamp_rest.new.device) c.in_ok-finish_cycle.ensures.ok _ c.in_err-stamp_rest.ensures.err).images

pub returns-in_err-stamp_rest-clause-fault : goal.returns-in_err-stamp_rest-clause-fault
returns-in_err-stamp_rest-clause-fault g c =
    let state = g.D.Pmem.state in
    reported c.from_residual-in_err-stamp_rest.result _ (λ (fault : Fault). (q : State) → Shows c.args.self.now (state c.args.device.now) q → ◌≡◌ {A = Bool} q.failed false → IsClosingRefusal q (state c.args.device.now) (state c.stamp_rest.new.device) fault) c.from_residual-in_err-stamp_rest.ensures.1
    (refused-part c.args.self.now (state c.args.device.now) c.closing_gate.result c.closing_gate.ensures c.if-closing_gate-ge-NUMBER_LIMIT.false (state c.stamp_rest.new.device) _ (failed_after c.args.self.now c.finish_cycle.new.self c.stamp_rest.new.self (state c.args.device.now) (state c.finish_cycle.new.device) (state c.stamp_rest.new.device) c.in_ok-finish_cycle.ensures.ok _ c.in_err-stamp_rest.ensures.err))

pub cover_drawn-requires-clause-shown : goal.cover_drawn-requires-clause-shown
cover_drawn-requires-clause-shown g c =
    let state = g.D.Pmem.state in
    let two : ClosePhaseDone c.args.self.now c.stamp_rest.new.self (state c.args.device.now) (state c.stamp_rest.new.device) = part_trans c.args.self.now c.finish_cycle.new.self c.stamp_rest.new.self (state c.args.device.now) (state c.finish_cycle.new.device) (state c.stamp_rest.new.device) c.in_ok-finish_cycle.ensures.ok c.in_ok-stamp_rest.ensures.ok in
    shown_after c.args.self.now c.stamp_rest.new.self c.stamp_rest.new.self (state c.args.device.now) (state c.stamp_rest.new.device) (state c.stamp_rest.new.device) two c.requires.shown

pub cover_drawn-requires-clause-numbered : goal.cover_drawn-requires-clause-numbered
cover_drawn-requires-clause-numbered g c =
    let state = g.D.Pmem.state in
    let two : ClosePhaseDone c.args.self.now c.stamp_rest.new.self (state c.args.device.now) (state c.stamp_rest.new.device) = part_trans c.args.self.now c.finish_cycle.new.self c.stamp_rest.new.self (state c.args.device.now) (state c.finish_cycle.new.device) (state c.stamp_rest.new.device) c.in_ok-finish_cycle.ensures.ok c.in_ok-stamp_rest.ensures.ok in
    numbered-last c.args.self.now (state c.args.device.now) c.closing_gate.result c.closing_gate.ensures c.if-closing_gate-ge-NUMBER_LIMIT.false c.stamp_rest.new.self (state c.stamp_rest.new.device) two c.in_ok-stamp_rest.ensures.rests c.requires.shown

pub returns-clause-images : goal.returns-clause-images
returns-clause-images g c =
    let state = g.D.Pmem.state in
    let two : ClosePhaseDone c.args.self.now c.stamp_rest.new.self (state c.args.device.now) (state c.stamp_rest.new.device) = part_trans c.args.self.now c.finish_cycle.new.self c.stamp_rest.new.self (state c.args.device.now) (state c.finish_cycle.new.device) (state c.stamp_rest.new.device) c.in_ok-finish_cycle.ensures.ok c.in_ok-stamp_rest.ensures.ok in
    images-last c.args.self.now (state c.args.device.now) c.closing_gate.result c.closing_gate.ensures c.if-closing_gate-ge-NUMBER_LIMIT.false c.stamp_rest.new.self (state c.stamp_rest.new.device) two (state c.cover_drawn.new.device) c.cover_drawn.result c.cover_drawn.ensures.ok c.cover_drawn.ensures.err

pub returns-clause-ok : goal.returns-clause-ok
returns-clause-ok g c =
    let state = g.D.Pmem.state in
    let two : ClosePhaseDone c.args.self.now c.stamp_rest.new.self (state c.args.device.now) (state c.stamp_rest.new.device) = part_trans c.args.self.now c.finish_cycle.new.self c.stamp_rest.new.self (state c.args.device.now) (state c.finish_cycle.new.device) (state c.stamp_rest.new.device) c.in_ok-finish_cycle.ensures.ok c.in_ok-stamp_rest.ensures.ok in
    on_ok_weaker c.cover_drawn.result (λ last. (last_after c.args.self.now c.stamp_rest.new.self c.stamp_rest.new.self (state c.args.device.now) (state c.stamp_rest.new.device) (state c.cover_drawn.new.device) two last).closed) c.cover_drawn.ensures.ok

pub returns-clause-may_close : goal.returns-clause-may_close
returns-clause-may_close g c =
    let state = g.D.Pmem.state in
    on_ok-from c.cover_drawn.result (may-close c.args.self.now (state c.args.device.now) c.closing_gate.result c.closing_gate.ensures c.if-closing_gate-ge-NUMBER_LIMIT.false)

pub returns-clause-fault : goal.returns-clause-fault
returns-clause-fault g c =
    let state = g.D.Pmem.state in
    let two : ClosePhaseDone c.args.self.now c.stamp_rest.new.self (state c.args.device.now) (state c.stamp_rest.new.device) = part_trans c.args.self.now c.finish_cycle.new.self c.stamp_rest.new.self (state c.args.device.now) (state c.finish_cycle.new.device) (state c.stamp_rest.new.device) c.in_ok-finish_cycle.ensures.ok c.in_ok-stamp_rest.ensures.ok in
    refused-last c.args.self.now (state c.args.device.now) c.closing_gate.result c.closing_gate.ensures c.if-closing_gate-ge-NUMBER_LIMIT.false c.stamp_rest.new.self (state c.stamp_rest.new.device) two (state c.cover_drawn.new.device) c.cover_drawn.result c.cover_drawn.ensures.ok c.cover_drawn.ensures.err
