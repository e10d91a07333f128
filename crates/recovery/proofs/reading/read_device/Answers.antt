use Rattle.std.proofs.Common.{◌∙◌, arith}
use Rattle.pmem.specs.Words.{image_of}
use Rattle.recovery.proofs.sweeps.Slots.{ruled-size}
use Rattle.recovery.proofs.reads.Images.{refusal-log, refusal-slots, is-read}
use Rattle.recovery.proofs.reads.Slots.{readings-size}
use Rattle.recovery.proofs.reading.read_device.Goals as goal

pub returns-in-Err-clause-fault : goal.returns-in-Err-clause-fault
returns-in-Err-clause-fault g c = refusal-log (image_of (g.D.Pmem.state c.args.device.now)) c.in-Err.fault c.in-Err.ensures.fault

pub held_slots-requires-clause-size : goal.held_slots-requires-clause-size
held_slots-requires-clause-size g c κs within = grind (arith, readings-size)

pub returns-in-Err-held_slots-clause-fault : goal.returns-in-Err-held_slots-clause-fault
returns-in-Err-held_slots-clause-fault g c = grind (arith, refusal-slots)

-- ---- the rows

pub live_rows-requires-clause-size : goal.live_rows-requires-clause-size
live_rows-requires-clause-size g c = ruled-size (g.D.Pmem.state c.args.device.now) c.in-Ok.readings.geometry c.in-Ok.readings.ruling c.in-Ok.ensures.ok.rules

pub live_rows-requires-clause-live : goal.live_rows-requires-clause-live
live_rows-requires-clause-live g c = grind (arith)

pub live_rows-requires-clause-good : goal.live_rows-requires-clause-good
live_rows-requires-clause-good g c = grind (arith)

pub returns-in-Ok-live_rows-clause-ok : goal.returns-in-Ok-live_rows-clause-ok
returns-in-Ok-live_rows-clause-ok g c =
    let image = image_of (g.D.Pmem.state c.args.device.now) in
    let readings = c.in-Ok.readings in
    let held = c.in-Ok-held_slots.ensures.held image (c.as_slice-slots.ensures.value ∙ c.in-Ok.ensures.ok.slots_are) in
    is-read readings.geometry readings.ruling image c.in-Ok.ensures.ok.rules held.good c.in-Ok-live_rows.rows.items c.in-Ok-live_rows.ensures
