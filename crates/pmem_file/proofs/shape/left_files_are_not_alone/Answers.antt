use Rattle.std.proofs.Common.{length, get_or, arith}
use Rattle.pmem_file.proofs.Shapes.{not-whole}
use Rattle.pmem_file.proofs.shape.left_files_are_not_alone.Goals as goal

pub returns : goal.returns
returns g c own =
    let images = c.args.images.now in
    let file = c.args.file.now in
    let found = c.requires.found in
    not-whole c.args.asked.now own file (length images.written.value.items) images.room found.size images.part.has (images.holds (get_or file 5 0) (found.each 5 (omega (arith, images.part.has))))
    c.left_files_name_their_shape.ensures.tail (c.asked_in_limits.ensures own)
