use Rattle.std.proofs.Common.{length, refl}
use Rattle.journal.specs.Lives.{IsLeft}
use Rattle.journal.proofs.Decides.{if_err, if_ok, left_still, read_within, stands_within, stopped_stands}
use Rattle.pmem.specs.Words.{image_of}
use Rattle.pmem_file.specs.Traces.{device_of}
use Rattle.pmem_file.proofs.NextLife.{file_moved, left_moved, may_moved}
use Rattle.pmem_file.proofs.lives.next_device_begins_with_what_was_left.Goals as goal

pub returns-in-Ok-clause-stands : goal.returns-in-Ok-clause-stands
returns-in-Ok-clause-stands g c =
    let images = c.args.last.now.images in
    if_ok c.over.result (λ device stands places.
    may_moved (g.B.Storage.may_hold images.storage) c.args.words c.args.room images.room images.written.value.items (image_of (device_of device.trace)) c.requires.words c.requires.room
    (record { file = c.args.file.items; found = c.requires.found; opens = stands })) c.over.ensures.stands c.over.ensures.places

pub returns-in-Ok-clause-left : goal.returns-in-Ok-clause-left
returns-in-Ok-clause-left g c =
    let images = c.args.last.now.images in
    if_ok c.over.result (λ device stands places.
    c.found_image_was_left.ensures.images (image_of (device_of device.trace))
    (may_moved (g.B.Storage.may_hold images.storage) c.args.words c.args.room images.room images.written.value.items (image_of (device_of device.trace)) c.requires.words c.requires.room
    (record { file = c.args.file.items; found = c.requires.found; opens = stands }))) c.over.ensures.stands c.over.ensures.places

pub returns-in-Ok-clause-stopped : goal.returns-in-Ok-clause-stopped
returns-in-Ok-clause-stopped g c =
    let images = c.args.last.now.images in
    let before = g.B.Storage.may_hold images.storage in
    let hold = g.S.Storage.may_hold in
    let words = c.args.words in
    let room = c.args.room in
    let file = c.args.file.items in
    let within = read_within before (hold c.args.next) (hold c.write_back.new.storage) words room file c.requires.found c.requires.begins (rw c.as_slice.ensures.value at c.write_back.ensures.puts) in
    let here : IsLeft before (length images.written.value.items) images.room = record { some = images.part.has; names = images.named; part = images.holds; decides = images.decides } in
    let left = left_moved before words (length images.written.value.items) room images.room c.requires.words c.requires.room here in
    let is = file_moved words (length images.written.value.items) room images.room (length file) c.requires.words c.requires.room c.requires.found.size (record { whole = images.whole; fits = images.fits; size = refl }) in
    if_err c.over.result (λ unopened stands image stood.
    may_moved before words room images.room images.written.value.items image c.requires.words c.requires.room
    (stopped_stands before (hold c.write_back.new.storage) (hold unopened.storage) words room file is c.requires.found left within stands image stood)) c.over.ensures.unopened

pub returns-in-Err-clause-stopped : goal.returns-in-Err-clause-stopped
returns-in-Err-clause-stopped g c image stood =
    let images = c.args.last.now.images in
    let before = g.B.Storage.may_hold images.storage in
    let hold = g.S.Storage.may_hold in
    let words = c.args.words in
    let room = c.args.room in
    let within = read_within before (hold c.args.next) (hold c.write_back.new.storage) words room c.args.file.items c.requires.found c.requires.begins (rw c.as_slice.ensures.value at c.write_back.ensures.puts) in
    may_moved before words room images.room images.written.value.items image c.requires.words c.requires.room (stands_within before (hold c.write_back.new.storage) words room within image stood)

pub over-requires-clause-still : goal.over-requires-clause-still
over-requires-clause-still g c size =
    let images = c.args.last.now.images in
    let before = g.B.Storage.may_hold images.storage in
    let hold = g.S.Storage.may_hold in
    let words = c.args.words in
    let room = c.args.room in
    let file = c.args.file.items in
    let within = read_within before (hold c.args.next) (hold c.write_back.new.storage) words room file c.requires.found c.requires.begins (rw c.as_slice.ensures.value at c.write_back.ensures.puts) in
    let here : IsLeft before (length images.written.value.items) images.room = record { some = images.part.has; names = images.named; part = images.holds; decides = images.decides } in
    let left = left_moved before words (length images.written.value.items) room images.room c.requires.words c.requires.room here in
    left_still before (hold c.write_back.new.storage) words room file c.requires.found left.decides within
