use Rattle.std.proofs.Common.{◌≡◌, ◌∙◌, ◌++◌, ◌∷◌, [], sym, ap, arith}
use Rattle.pmem.specs.Words.{image_of}
use Rattle.recovery.specs.Sweeping.{hits_below}
use Rattle.recovery.proofs.sweeps.Hits.{hits-none, hits-more}
use Rattle.recovery.proofs.sweeping.hit_slots.Goals as goal

pub loop-slot-init : goal.loop-slot-init
loop-slot-init g c = grind (arith, hits-none)

pub loop-slot-preserved : goal.loop-slot-preserved
loop-slot-preserved g c =
    let image = image_of (g.D.Pmem.state c.args.device.now) in
    c.in_ok-push.ensures.items ∙ (λ i. c.loop-slot.invariant i ++ c.is_hit.ensures i ∷ []) ∙ sym (hits-more image c.loop-slot.slot)

pub returns : goal.returns
returns g c =
    let image = image_of (g.D.Pmem.state c.args.device.now) in
    let done : c.loop-slot.slot ≡ c.args.geometry.slots = omega (arith, c.loop-slot-test.false, c.loop-slot.auto.slot-end, c.slots-slot-end.ensures.value) in
    c.loop-slot.invariant ∙ ap (hits_below image) done
