use Rattle.std.proofs.Common.{◌<◌, ◌++◌, ◌∷◌, [], not, sym, ◌∙◌, ap, length, arith}
use Rattle.recovery.proofs.reads.Visits.{free-none, free-more}
use Rattle.recovery.proofs.reads.HeldSlots.{free-found}
use Rattle.recovery.proofs.reads.Slots.{found-at}
use Rattle.recovery.proofs.reads.LiveRows.{good-at}
use Rattle.recovery.proofs.holding.free_slots.Goals as goal

pub loop-slot-init : goal.loop-slot-init
loop-slot-init c = λ image are. c.in_ok-free.ensures.items ∙ sym (free-none image)

pub loop-slot-preserved : goal.loop-slot-preserved
loop-slot-preserved c = λ image are.
    let slot = c.loop-slot.slot in
    let within : slot < length c.args.readings.now = omega (arith, c.loop-slot-test.true) in
    let found = c.index-readings-slot.is ∙ found-at image (length c.args.readings.now) slot _ c.args.readings.now are.all within in
    c.in_ok-push.ensures.items
    ∙ (λ i. c.loop-slot.invariant image are i ++ (ap not c.is_live.ensures ∙ free-found image slot _ found (good-at image (length c.args.readings.now) slot are.good within)) i ∷ [])
    ∙ sym (free-more image slot)
