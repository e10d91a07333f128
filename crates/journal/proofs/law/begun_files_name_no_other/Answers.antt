use Rattle.journal.proofs.Tails.{begun_or_named, begun_one, both_some}
use Rattle.journal.proofs.law.begun_files_name_no_other.Goals as goal

pub returns-clause-begun : goal.returns-clause-begun
returns-clause-begun g c = begun_or_named (g.S.Storage.may_hold c.args.storage.now) c.args.words c.args.room c.args.file.now c.requires.first c.requires.found

pub returns-clause-same : goal.returns-clause-same
returns-clause-same g c =
    let words = c.args.words in
    let room = c.args.room in
    let file = c.args.file.now in
    let begun = begun_or_named (g.S.Storage.may_hold c.args.storage.now) words room file c.requires.first c.requires.found in
    both_some c.extent_of.result (λ found is has.
    let one = begun_one words room found.0 found.1 file c.requires.file begun is has in
    (λ i. (one.0 i, one.1 i))) c.extent_of.ensures.size c.extent_of.ensures.tail
