use Rattle.std.proofs.Common.{ℕ, length, subst}
use Rattle.journal.specs.Lives.{IsLeft}
use Rattle.journal.proofs.Decides.{if_err, if_err_all, if_ok, left_still, left_within, read_within, stopped_left, stopped_stands}
use Rattle.journal.proofs.law.next_begins_with_what_was_left.Goals as goal

pub returns-in-Ok-clause-leaves : goal.returns-in-Ok-clause-leaves
returns-in-Ok-clause-leaves g c =
    let hold = g.S.Storage.may_hold in
    if_ok c.open.result (λ images stands is.
    let all : IsLeft (hold images.storage) (length images.written.value.items) images.room = record { some = images.part.has; names = images.named; part = images.holds; decides = images.decides } in
    subst (λ (n : ℕ). IsLeft (hold images.storage) n c.args.room) stands.size (subst (λ (n : ℕ). IsLeft (hold images.storage) (length images.written.value.items) n) is all)) c.open.ensures.stands c.open.ensures.room

pub returns-in-Ok-clause-stopped : goal.returns-in-Ok-clause-stopped
returns-in-Ok-clause-stopped g c =
    let before = g.B.Storage.may_hold c.args.last.now in
    let hold = g.S.Storage.may_hold in
    let words = c.args.words in
    let room = c.args.room in
    let file = c.args.file.now.items in
    let within = read_within before (hold c.args.next) (hold c.write_back.new.storage) words room file c.requires.found c.requires.begins (rw c.as_slice.ensures.value at c.write_back.ensures.puts) in
    if_err c.open.result (λ unopened stands. stopped_stands before (hold c.write_back.new.storage) (hold unopened.storage) words room file c.requires.file c.requires.found c.requires.left within stands) c.open.ensures.unopened

pub returns-in-Ok-clause-left : goal.returns-in-Ok-clause-left
returns-in-Ok-clause-left g c =
    let before = g.B.Storage.may_hold c.args.last.now in
    let hold = g.S.Storage.may_hold in
    let words = c.args.words in
    let room = c.args.room in
    let file = c.args.file.now.items in
    let within = read_within before (hold c.args.next) (hold c.write_back.new.storage) words room file c.requires.found c.requires.begins (rw c.as_slice.ensures.value at c.write_back.ensures.puts) in
    if_err_all c.open.result (λ unopened stands names part. stopped_left before (hold c.write_back.new.storage) (hold unopened.storage) words room file c.requires.file c.requires.found c.requires.left within stands names part)
    c.open.ensures.unopened c.open.ensures.tail c.open.ensures.part

pub returns-in-Err-clause-left : goal.returns-in-Err-clause-left
returns-in-Err-clause-left g c =
    let before = g.B.Storage.may_hold c.args.last.now in
    let hold = g.S.Storage.may_hold in
    let within = read_within before (hold c.args.next) (hold c.write_back.new.storage) c.args.words c.args.room c.args.file.now.items c.requires.found c.requires.begins (rw c.as_slice.ensures.value at c.write_back.ensures.puts) in
    left_within before (hold c.write_back.new.storage) c.args.words c.args.room within c.requires.left

pub open-requires-clause-still : goal.open-requires-clause-still
open-requires-clause-still g c size =
    let before = g.B.Storage.may_hold c.args.last.now in
    let hold = g.S.Storage.may_hold in
    let words = c.args.words in
    let room = c.args.room in
    let file = c.args.file.now.items in
    let within = read_within before (hold c.args.next) (hold c.write_back.new.storage) words room file c.requires.found c.requires.begins (rw c.as_slice.ensures.value at c.write_back.ensures.puts) in
    left_still before (hold c.write_back.new.storage) words room file c.requires.found c.requires.left.decides within
