use Rattle.std.proofs.Common.{◌≡◌, ◌∙◌, ℕ, List, slice_index, ap, subst, sym}
use Rattle.std.specs.List.{each_same}
use Rattle.journal.specs.Files.{StandsAs}
use Rattle.journal.proofs.Decides.{if_err}
use Rattle.journal.proofs.Files.{file-stands, held-still}
use Rattle.pmem_file.specs.Memory.{stored_in, IsStored}
use Rattle.pmem_file.proofs.memory_storage.JournaledPmem+JournaledImages+MemoryStorage.of_storage.Goals as goal

pub returns-in-Err-clause-unopened : goal.returns-in-Err-clause-unopened
returns-in-Err-clause-unopened c = file-stands (IsStored c.args.storage) c.args.words c.args.room (stored_in c.args.storage) (λ word x lt h. h)

pub returns-in-Ok-clause-unopened : goal.returns-in-Ok-clause-unopened
returns-in-Ok-clause-unopened c =
    let is : c.in-Ok.file.items ≡ stored_in c.args.storage = each_same c.args.storage.words.items c.in-Ok.file.items c.in-Ok.ensures.cases.0 in
    if_err c.over.result (λ unopened stands. subst (λ (l : List ℕ). StandsAs (IsStored unopened.storage) c.args.words c.args.room l) is stands) c.over.ensures.unopened

pub over-requires-clause-still : goal.over-requires-clause-still
over-requires-clause-still c size =
    let file : List ℕ = c.in-Ok.file.items in
    let is : file ≡ stored_in c.args.storage = each_same c.args.storage.words.items c.in-Ok.file.items c.in-Ok.ensures.cases.0 in
    held-still (IsStored c.args.storage) c.args.words c.args.room file (λ word x lt h. h ∙ sym (ap (λ (l : List ℕ). slice_index l word) is)) size
