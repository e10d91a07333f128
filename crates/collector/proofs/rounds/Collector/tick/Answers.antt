use Rattle.std.proofs.Common.{◌<◌, Bool, cond, OnErr, sym, subst, arith}
use Rattle.std.proofs.lemmas.Bool.{le-ltb, lt-ltb}
use Rattle.pmem.specs.Words.{value_of}
use Rattle.pmem.specs.Trace.{StopsWithin}
use Rattle.collector.specs.Sweeping.{slot_operations, end_operations}
use Rattle.collector.proofs.rounds.Collector.tick.Goals as goal

pub returns-then-self-slots-clause-stopped : goal.returns-then-self-slots-clause-stopped
returns-then-self-slots-clause-stopped g c =
    let old = g.D.Pmem.state c.args.device.now in
    let new = g.D.Pmem.state c.visit_slot.new.device in
    let place = c.args.self.now.place in
    let within : place < c.args.geometry.slots = omega (arith, c.if-self-slots.true, c.slots.ensures.value) in
    subst (λ (b : Bool). OnErr c.visit_slot.result (StopsWithin (cond b (slot_operations c.args.geometry c.args.gaps.now c.args.self.now.swept place (value_of old)) (end_operations c.args.gaps.now c.args.self.now.swept)) old new))
    (sym (lt-ltb place c.args.geometry.slots within)) c.visit_slot.ensures.stopped

pub returns-else-self-slots-clause-stopped : goal.returns-else-self-slots-clause-stopped
returns-else-self-slots-clause-stopped g c = grind (arith, le-ltb, c.if-self-slots.false, c.slots.ensures.value, c.end_sweep.ensures.stopped)
