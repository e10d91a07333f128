use Rattle.std.proofs.Common.{◌≡◌, ◌+◌, List, true, sym, ◌∙◌, ap, subst}
use Rattle.std.proofs.lemmas.Bool.{iff_false}
use Rattle.std.specs.Prelude.{nat_eq}
use Rattle.std.specs.List.{list_any}
use Rattle.base.specs.Choosing.{closing_record}
use Rattle.base.specs.Records.{are_rising}
use Rattle.base.proofs.Results.{reported}
use Rattle.pmem.specs.Trace.{applied}
use Rattle.log_area.specs.Writings.{begun}
use Rattle.dirty_table.specs.declared.sessions.SessionSet.{SessionSet}
use Rattle.dirty_table.specs.Touches.{lines_touched}
use Rattle.txn.specs.InFlight.{InFlight}
use Rattle.group_commit.specs.Cycles.{line_from, operation_in, ticked_in}
use Rattle.room.specs.Closing.{ClosePhaseFailed}
use Rattle.room.proofs.closes.Cycle.{begins, sized, line-fits, ticks, comes-closer, fails-then, ends}
use Rattle.room.proofs.volatile.VolatileState.cover_drawn.Goals as goal

pub loop-cycle-init : goal.loop-cycle-init
loop-cycle-init g c =
    begins c.args.self.now (g.D.Pmem.state c.args.device.now) c.closing-cycle.result (g.met.D.Pmem.orderly _)
    (λ n. c.closing-cycle.ensures.sessions n ∙ ap (λ (f : InFlight). list_any (λ d. nat_eq d.session n) f.commits) c.drawn.ensures)
    (c.closing-cycle.ensures.writing ∙ λ i. begun (c.numbers-numbers.ensures i).geometry (closing_record ((c.numbers-numbers.ensures i).record.gate + 1) (c.numbers-numbers.ensures i).record (c.numbers-numbers.ensures i).next (c.has_swept.ensures i)))
    c.closing-cycle.ensures.stage

pub tick-requires-clause-size : goal.tick-requires-clause-size
tick-requires-clause-size g c =
    let state = g.D.Pmem.state in
    sized c.args.self.now (state c.args.device.now) (state c.loop-cycle.device) c.loop-cycle.cycle c.loop-cycle.invariant c.requires.rests c.requires.stamped c.requires.numbered c.requires.shown (g.met.D.Pmem.orderly _)

pub tick-requires-clause-lines : goal.tick-requires-clause-lines
tick-requires-clause-lines g c =
    let state = g.D.Pmem.state in
    λ line is.
    line-fits c.args.self.now (state c.args.device.now) (state c.loop-cycle.device) c.loop-cycle.cycle c.loop-cycle.invariant c.requires.rests c.requires.stamped c.requires.numbered c.requires.shown (g.met.D.Pmem.orderly _) line
    (sym (λ i. line_from (lines_touched c.loop-cycle.cycle.sessions (c.dirty.ensures i)) c.loop-cycle.cycle.stage) ∙ is)

pub returns-in_err-tick-clause-err : goal.returns-in_err-tick-clause-err
returns-in_err-tick-clause-err g c =
    let state = g.D.Pmem.state in
    reported c.from_residual.result _ (ClosePhaseFailed c.args.self.now (state c.args.device.now) (state c.tick.new.device)) c.from_residual.ensures.1
    (fails-then c.args.self.now (state c.args.device.now) (state c.loop-cycle.device) c.loop-cycle.cycle c.loop-cycle.invariant c.requires.rests c.requires.stamped c.requires.numbered
    (state c.tick.new.device) (g.met.D.Pmem.orderly _) (g.met.D.Pmem.orderly _) (iff_false c.is_done.ensures c.loop-cycle-test.true) c.in_err-tick.ensures.failure _ c.in_err-tick.ensures.fault)

pub loop-cycle-smaller : goal.loop-cycle-smaller
loop-cycle-smaller g c =
    let state = g.D.Pmem.state in
    comes-closer c.args.self.now (state c.args.device.now) (state c.loop-cycle.device) c.loop-cycle.cycle c.loop-cycle.invariant c.requires.rests c.requires.stamped c.requires.numbered
    (state c.tick.new.device) (g.met.D.Pmem.orderly _) (g.met.D.Pmem.orderly _) (iff_false c.is_done.ensures c.loop-cycle-test.true)
    (λ count from is. subst (λ (t : List SessionSet). are_rising (lines_touched c.loop-cycle.cycle.sessions t) ≡ true) c.dirty.ensures (c.tick.ensures.rising count from is))
    (c.in_ok-tick.ensures.operation ∙ λ i. applied (operation_in (lines_touched c.loop-cycle.cycle.sessions (c.dirty.ensures i)) c.loop-cycle.cycle) (state c.loop-cycle.device))
    c.tick.new.self (c.in_ok-tick.ensures.ok ∙ λ i. ticked_in (lines_touched c.loop-cycle.cycle.sessions (c.dirty.ensures i)) c.loop-cycle.cycle)

pub loop-cycle-preserved : goal.loop-cycle-preserved
loop-cycle-preserved g c =
    let state = g.D.Pmem.state in
    ticks c.args.self.now (state c.args.device.now) (state c.loop-cycle.device) c.loop-cycle.cycle c.loop-cycle.invariant c.requires.rests c.requires.stamped c.requires.numbered
    (state c.tick.new.device) (g.met.D.Pmem.orderly _) (g.met.D.Pmem.orderly _) (iff_false c.is_done.ensures c.loop-cycle-test.true)
    (λ count from is. subst (λ (t : List SessionSet). are_rising (lines_touched c.loop-cycle.cycle.sessions t) ≡ true) c.dirty.ensures (c.tick.ensures.rising count from is))
    (c.in_ok-tick.ensures.operation ∙ λ i. applied (operation_in (lines_touched c.loop-cycle.cycle.sessions (c.dirty.ensures i)) c.loop-cycle.cycle) (state c.loop-cycle.device))
    c.tick.new.self (c.in_ok-tick.ensures.ok ∙ λ i. ticked_in (lines_touched c.loop-cycle.cycle.sessions (c.dirty.ensures i)) c.loop-cycle.cycle)

pub returns-clause-ok : goal.returns-clause-ok
returns-clause-ok g c =
    let state = g.D.Pmem.state in
    ends c.args.self.now (state c.args.device.now) (state c.loop-cycle.device) c.loop-cycle.cycle c.loop-cycle.invariant c.requires.rests c.requires.stamped c.requires.numbered (c.is_done.ensures.0 c.loop-cycle-test.false)
