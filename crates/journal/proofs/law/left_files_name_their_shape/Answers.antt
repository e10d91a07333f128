use Rattle.std.proofs.Common.{length}
use Rattle.journal.proofs.Tails.{found_tail}
use Rattle.journal.proofs.law.left_files_name_their_shape.Goals as goal

pub returns-clause-same : goal.returns-clause-same
returns-clause-same g c =
    let images = c.args.images.now in
    let words = length images.written.value.items in
    c.extent_of.ensures.named words images.room (record { whole = images.whole; fits = images.fits; size = c.requires.found.size })
    (found_tail (g.S.Storage.may_hold images.storage) words images.room c.args.file.now images.named c.requires.found)
