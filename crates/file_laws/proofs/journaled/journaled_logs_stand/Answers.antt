use Rattle.pmem_file.specs.Devices.{kept_at, state_of}
use Rattle.file_laws.proofs.Finding.{logged-now, logged-within, logged-closing}
use Rattle.file_laws.proofs.journaled.journaled_logs_stand.Goals as goal

pub returns-clause-now : goal.returns-clause-now
returns-clause-now g c = λ opened log image only has same may.
    let found = c.args.found.now in
    logged-now c.args.room.now found opened log (kept_at found) image only has same
    (record { left = c.found_image_was_left.ensures.images image may; gates = c.found_image_was_left.ensures.gates image may })

pub returns-clause-within : goal.returns-clause-within
returns-clause-within g c = λ opened log step reply image only has leads before after may.
    let found = c.args.found.now in
    logged-within c.args.room.now found opened log (kept_at found) image only has c.args.next.now step reply leads before after
    (record { left = c.found_image_was_left.ensures.images image may; gates = c.found_image_was_left.ensures.gates image may })

pub returns-clause-closing : goal.returns-clause-closing
returns-clause-closing g c = λ opened log image only has closes before after may.
    let found = c.args.found.now in
    logged-closing c.args.room.now found opened log (kept_at found) image only has (state_of c.args.device.now) closes before after
    (record { left = c.found_image_was_left.ensures.images image may; gates = c.found_image_was_left.ensures.gates image may })
