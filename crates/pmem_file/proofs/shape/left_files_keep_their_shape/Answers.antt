use Rattle.std.proofs.Common.{ℕ, Option, IfSome, length, subst, ap, ◌∙◌}
use Rattle.journal.specs.Images.{last_image, room_of}
use Rattle.pmem_file.specs.declared.shape.Shape.{Shape}
use Rattle.pmem_file.specs.Shapes.{KeepsNames}
use Rattle.pmem_file.proofs.shape.left_files_keep_their_shape.Goals as goal

pub returns-in-Some-clause-same : goal.returns-in-Some-clause-same
returns-in-Some-clause-same g c =
    let asked = c.args.asked.now in
    let file = c.args.file.now in
    let words = length (last_image c.args.images.now) in
    let room = room_of c.args.images.now in
    let keeps : KeepsNames asked file c.in-Some.shape = subst (λ (found : Option Shape). IfSome found (KeepsNames asked file)) c.in-Some.is c.in_ok-shape.ensures.named in
    let both = keeps words room c.left_files_name_their_shape.ensures.file c.left_files_name_their_shape.ensures.tail c.left_files_are_not_alone.ensures in
    ap (λ (size : ℕ). (size, c.in-Some.shape.room)) both.0 ∙ ap (λ (journal : ℕ). (words, journal)) both.1
