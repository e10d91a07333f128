use Rattle.std.proofs.Common.{◌≡◌, ◌∙◌, length, refl, sym, arith}
use Rattle.std.proofs.lemmas.List.{same_lists, with_items_is}
use Rattle.pmem.specs.Words.{image_of}
use Rattle.recovery.specs.Slots.{readings_below}
use Rattle.recovery.proofs.reads.Slots.{found-at, readings-size}
use Rattle.recovery.proofs.slots.read_slots.Goals as goal

pub returns : goal.returns
returns g c =
    let image = image_of (g.D.Pmem.state c.args.device.now) in
    let n = c.args.geometry.slots in
    let made = c.in_ok-readings.readings in
    let new = c.read_into.new.readings in
    let same : length new ≡ made.len = omega (arith, c.read_into.ensures.len, c.as_mut_slice.ensures.len) in
    let size : length new ≡ n = omega (arith, same, c.in_ok-readings.ensures, c.slots.ensures.value) in
    with_items_is made new same ∙ same_lists new (readings_below image n) (size ∙ sym (readings-size image n)) (λ k d lt.
    c.read_into.ensures.each k d (omega (arith, lt, c.read_into.ensures.len)) ∙ sym (found-at image n k d (readings_below image n) refl (omega (arith, lt, size))))
