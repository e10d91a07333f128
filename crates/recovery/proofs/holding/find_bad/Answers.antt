use Rattle.std.proofs.Common.{◌<◌, ◌∙◌, arith}
use Rattle.recovery.proofs.reads.Visits.{keys-none, bad-none, bad-more, slots-visit}
use Rattle.recovery.proofs.reads.Slots.{found-at}
use Rattle.recovery.proofs.holding.find_bad.Goals as goal

pub loop-slot-init : goal.loop-slot-init
loop-slot-init c = grind (arith, keys-none, bad-none)

pub returns-in-Err-clause-fault : goal.returns-in-Err-clause-fault
returns-in-Err-clause-fault c = λ image are.
    let slot = c.loop-slot.slot in
    let within : slot < c.args.geometry.slots = omega (arith, c.loop-slot-test.true, c.slots-slot-end.ensures.value) in
    slots-visit c.args.geometry image slot c.in-Err.fault within (c.loop-slot.invariant.good image are)
    (c.in-Err.ensures.fault image (c.content-found.ensures ∙ c.index-readings-slot.is ∙ found-at image c.args.geometry.slots slot _ c.args.readings.now are within) (c.loop-slot.invariant.keys image are))

pub loop-slot-preserved : goal.loop-slot-preserved
loop-slot-preserved c = grind (arith, found-at, bad-more, c.content-found.ensures, c.index-readings-slot.is, c.loop-slot-test.true, c.slots-slot-end.ensures.value, c.in-Ok.ensures.keys, c.loop-slot.invariant.keys, c.loop-slot.invariant.good, c.in-Ok.ensures.good)
