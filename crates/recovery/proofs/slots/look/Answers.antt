use Rattle.std.proofs.Common.{inl, inr, sym, ◌∙◌, arith}
use Rattle.recovery.proofs.reads.Visits.{look-ahead, look-free, look-live, look-bad}
use Rattle.recovery.proofs.slots.look.Goals as goal
use Rattle.recovery.proofs.slots.look.Goals.{then-begin-dirty-via-then-begin-dirty, then-begin-dirty-via-else-begin-dirty+then-end-dirty}

pub returns-then-begin-dirty : goal.returns-then-begin-dirty
returns-then-begin-dirty g c =
    let device = g.D.Pmem.state c.args.device.now in
    look-ahead device c.args.geometry c.args.ruling c.args.slot c.requires.size c.requires.under c.requires.slot
    c.begin-begin.result c.end-end.result c.begin-begin.ensures c.end-end.ensures
    (elim c.then-begin-dirty.branch [
      | then-begin-dirty-via-then-begin-dirty w ↦ inl (omega arith)
      | then-begin-dirty-via-else-begin-dirty+then-end-dirty w ↦ inr (omega arith)
    ])

pub returns-then-not-is_shown : goal.returns-then-not-is_shown
returns-then-not-is_shown g c =
    let device = g.D.Pmem.state c.args.device.now in
    look-free device c.args.geometry c.args.ruling c.args.slot c.requires.size c.requires.under c.requires.slot
    c.begin-begin.result c.end-end.result c.begin-begin.ensures c.end-end.ensures (omega arith) (omega arith) (sym c.is_shown.ensures ∙ c.if-not-is_shown.true)

pub returns-in-Some : goal.returns-in-Some
returns-in-Some g c =
    let device = g.D.Pmem.state c.args.device.now in
    look-live device c.args.geometry c.args.ruling c.args.slot c.requires.size c.requires.under c.requires.slot
    c.begin-begin.result c.end-end.result c.begin-begin.ensures c.end-end.ensures (omega arith) (omega arith) (sym c.is_shown.ensures ∙ c.if-not-is_shown.false) c.in-Some.key c.in-Some.ensures.some

pub returns-in-None : goal.returns-in-None
returns-in-None g c =
    let device = g.D.Pmem.state c.args.device.now in
    look-bad device c.args.geometry c.args.ruling c.args.slot c.requires.size c.requires.under c.requires.slot
    c.begin-begin.result c.end-end.result c.begin-begin.ensures c.end-end.ensures (g.met.D.Pmem.orderly c.args.device.now) (omega arith) (omega arith) (sym c.is_shown.ensures ∙ c.if-not-is_shown.false) c.in-None.ensures.none
