use Rattle.std.proofs.Common.{◌∙◌, ℕ, List, get_or, sym, ap, arith}
use Rattle.pmem_file.specs.Files.{held_in, shown_in}
use Rattle.pmem_file.proofs.ReadInPlace.{read_still}
use Rattle.pmem_file.proofs.Shapes.{past}
use Rattle.pmem_file.proofs.file_device.open_found.Goals as goal

pub over-opened-requires-clause-still : goal.over-opened-requires-clause-still
over-opened-requires-clause-still c size =
    let shape = c.args.shape in
    let words = c.args.found.words.items in
    let is = c.in_ok-words.ensures.words in
    read_still (shown_in c.in_ok-storage.storage) (shown_in c.grow.new.self) (held_in c.keep_behind.new.storage) c.count-count.result shape.words shape.room c.in_ok-words.words.items c.in_ok-storage.ensures
    c.grow.ensures.others
    (λ word x above lt h. c.in_ok-grow.ensures.zeros word x above (omega (arith, lt, c.whole.ensures)) h ∙ sym (ap (λ (l : List ℕ). get_or l word 0) is ∙ past shape words word (omega (arith, above, c.count-count.ensures)) (omega (arith, lt))))
    c.in_ok-keep_behind.ensures.place
