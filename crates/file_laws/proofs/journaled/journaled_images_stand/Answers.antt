use Rattle.pmem_file.specs.Devices.{kept_at}
use Rattle.file_laws.proofs.Finding.{found-between, found-meanwhile}
use Rattle.file_laws.proofs.journaled.journaled_images_stand.Goals as goal

pub returns-clause-now : goal.returns-clause-now
returns-clause-now g c = λ steps replies q states image runs same may.
    let found = c.args.found.now in
    found-between c.args.first.now c.args.next.now c.args.last.now found (kept_at found) steps replies q states image runs same
    (record { left = c.found_image_was_left.ensures.images image may; gates = c.found_image_was_left.ensures.gates image may })

pub returns-clause-within : goal.returns-clause-within
returns-clause-within g c = λ steps replies step reply q q' states image runs one before after may.
    let found = c.args.found.now in
    found-meanwhile c.args.first.now c.args.next.now c.args.last.now found (kept_at found) steps replies q states image step reply q' runs one before after
    (record { left = c.found_image_was_left.ensures.images image may; gates = c.found_image_was_left.ensures.gates image may })
