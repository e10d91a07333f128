use Rattle.std.proofs.Math.Logic.{∥∥₁_map}
use Rattle.machine.specs.Openings.{StandsOpening}
use Rattle.pmem.specs.Words.{image_of}
use Rattle.pmem_file.specs.Devices.{kept_at, state_of}
use Rattle.recovery.specs.Fresh.{IsFormatting}
use Rattle.file_laws.proofs.Finding.{left-either, left-since}
use Rattle.file_laws.proofs.journaled.journaled_images_stand_at_an_opening.Goals as goal

pub returns-clause-opening : goal.returns-clause-opening
returns-clause-opening g c = λ history next later image zero_is leaves after may.
    let device = state_of c.args.device.now in
    let found = c.args.found.now in
    ∥∥₁_map (c.found_image_was_left.ensures.images image may) (λ might.
    leaves.each image (left-since (state_of found) later (kept_at found) device.clock image zero_is after might))

pub returns-clause-formatting : goal.returns-clause-formatting
returns-clause-formatting g c = λ layout later image zero_is leaves after may.
    let device = state_of c.args.unformatted.now in
    let found = c.args.found.now in
    ∥∥₁_map (c.found_image_was_left.ensures.images image may) (λ might.
    leaves.each image (left-since (state_of found) later (kept_at found) device.clock image zero_is after might))

pub returns-clause-formatted : goal.returns-clause-formatted
returns-clause-formatted g c = λ layout history next later image zero_is formats opens after may.
    let unformatted = state_of c.args.unformatted.now in
    let device = state_of c.args.device.now in
    let found = c.args.found.now in
    ∥∥₁_map (c.found_image_was_left.ensures.images image may) (λ might.
    left-either (IsFormatting unformatted layout) (StandsOpening (image_of device) history next) unformatted device later image formats opens
    (left-since (state_of found) later (kept_at found) unformatted.clock image zero_is after might))
