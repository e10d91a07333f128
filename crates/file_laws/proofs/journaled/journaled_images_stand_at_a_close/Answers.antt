use Rattle.pmem_file.specs.Devices.{kept_at}
use Rattle.file_laws.proofs.Finding.{found-in-close, found-after-close}
use Rattle.file_laws.proofs.journaled.journaled_images_stand_at_a_close.Goals as goal

pub returns-clause-meanwhile : goal.returns-clause-meanwhile
returns-clause-meanwhile g c = λ steps replies q states image runs leaves before after may.
    let found = c.args.found.now in
    found-in-close c.args.first.now c.args.last.now c.args.last.now found (kept_at found) steps replies q states image c.args.device.now runs leaves before after
    (record { left = c.found_image_was_left.ensures.images image may; gates = c.found_image_was_left.ensures.gates image may })

pub returns-clause-after : goal.returns-clause-after
returns-clause-after g c = λ steps replies q states image runs leaves stands may.
    let device = c.args.device.now in
    found-after-close c.args.first.now c.args.last.now c.args.last.now c.args.found.now (kept_at device) steps replies q states image device runs leaves stands
    (record { left = c.found_image_was_left-2.ensures.images image may; gates = c.found_image_was_left-2.ensures.gates image may })
