use Rattle.std.proofs.Common.{sym, ◌∙◌, ap}
use Rattle.session_steps.specs.Replies.{stamped}
use Rattle.session_steps.proofs.Stepping.{on-device, shown-held-on}
use Rattle.room.specs.Closing.{ClosePhaseDone}
use Rattle.room.proofs.closes.Parts.{part_refl, part_trans, failed_after, shown_after}
use Rattle.room.proofs.closes.Stamps.{sessions-shown, stamp-done, stamp-failed, stamp-fewer, stamped-told, none-left}
use Rattle.room.proofs.volatile.VolatileState.stamp_rest.Goals as goal

pub loop-session-init : goal.loop-session-init
loop-session-init g c = (part_refl c.args.self.now (g.D.Pmem.state c.args.device.now) (g.met.D.Pmem.orderly _), c.requires.rests)

pub stamp-requires : goal.stamp-requires
stamp-requires g c =
    let state = g.D.Pmem.state in record {
      shown = shown-held-on c.loop-session.self.sessions (state c.loop-session.device) (sessions-shown c.loop-session.self (state c.loop-session.device) (shown_after c.args.self.now c.loop-session.self c.loop-session.self (state c.args.device.now) (state c.loop-session.device) (state c.loop-session.device) c.loop-session.invariant.0 c.requires.shown));
    }

pub returns-in-Err-clause-err : goal.returns-in-Err-clause-err
returns-in-Err-clause-err g c =
    let state = g.D.Pmem.state in
    failed_after c.args.self.now c.loop-session.self c.loop-session.self (state c.args.device.now) (state c.loop-session.device) (state c.stamp.new.device) c.loop-session.invariant.0 c.in-Err.fault
    (stamp-failed c.loop-session.self c.stamp.new.self (state c.loop-session.device) (state c.stamp.new.device) c.in-Some.session (stamped c.stamp.result) c.loop-session.invariant.1
    (shown_after c.args.self.now c.loop-session.self c.loop-session.self (state c.args.device.now) (state c.loop-session.device) (state c.loop-session.device) c.loop-session.invariant.0 c.requires.shown)
    (sym c.unstamped.ensures ∙ c.in-Some.is) (on-device c.loop-session.self.sessions c.stamp.new.self (state c.loop-session.device) (state c.stamp.new.device) _ _ c.stamp.ensures.step) c.in-Err.fault (ap stamped c.in-Err.is))

pub loop-session-smaller : goal.loop-session-smaller
loop-session-smaller g c =
    let state = g.D.Pmem.state in
    stamp-fewer c.loop-session.self c.stamp.new.self (state c.loop-session.device) (state c.stamp.new.device) c.in-Some.session (stamped c.stamp.result) c.loop-session.invariant.1
    (shown_after c.args.self.now c.loop-session.self c.loop-session.self (state c.args.device.now) (state c.loop-session.device) (state c.loop-session.device) c.loop-session.invariant.0 c.requires.shown)
    (sym c.unstamped.ensures ∙ c.in-Some.is) (on-device c.loop-session.self.sessions c.stamp.new.self (state c.loop-session.device) (state c.stamp.new.device) _ _ c.stamp.ensures.step) (λ fault told. c.in_default-stamp.not-Err fault (stamped-told c.stamp.result fault told))

pub loop-session-preserved : goal.loop-session-preserved
loop-session-preserved g c =
    let state = g.D.Pmem.state in
    let done : ClosePhaseDone c.loop-session.self (record { sessions = c.stamp.new.self; cycle = c.loop-session.self.cycle; covered = c.loop-session.self.covered }) (state c.loop-session.device) (state c.stamp.new.device) =
    stamp-done c.loop-session.self c.stamp.new.self (state c.loop-session.device) (state c.stamp.new.device) c.in-Some.session (stamped c.stamp.result) c.loop-session.invariant.1
    (shown_after c.args.self.now c.loop-session.self c.loop-session.self (state c.args.device.now) (state c.loop-session.device) (state c.loop-session.device) c.loop-session.invariant.0 c.requires.shown)
    (sym c.unstamped.ensures ∙ c.in-Some.is) (on-device c.loop-session.self.sessions c.stamp.new.self (state c.loop-session.device) (state c.stamp.new.device) _ _ c.stamp.ensures.step) (λ fault told. c.in_default-stamp.not-Err fault (stamped-told c.stamp.result fault told)) in
    (part_trans c.args.self.now c.loop-session.self _ (state c.args.device.now) (state c.loop-session.device) (state c.stamp.new.device) c.loop-session.invariant.0 done, c.loop-session.invariant.1)

pub returns-clause-stamped : goal.returns-clause-stamped
returns-clause-stamped g c = none-left c.loop-session.self.sessions.drawn.commits (sym c.unstamped.ensures ∙ c.in_default.is)
