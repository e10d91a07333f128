use Rattle.std.proofs.Common.{length, arith}
use Rattle.std.proofs.Math.Logic.{∥∥₁_map}
use Rattle.journal.proofs.Files.{known-journal, known-covers, place-opens, place-kept, merely-opens}
use Rattle.journal.proofs.Tails.{names_before}
use Rattle.journal.proofs.Places.{places_image, places_then}
use Rattle.journal.proofs.Placings.{placed-keeps}
use Rattle.journal.proofs.rewriting.settle.Goals as goal

pub turn_off-requires-clause-known : goal.turn_off-requires-clause-known
turn_off-requires-clause-known g c =
    let image = c.args.image.now.value.items in
    let room = c.args.room in
    let old = g.S.Storage.may_hold c.args.storage.now in
    let new = g.S.Storage.may_hold c.put_unplaced.new.storage in
    ∥∥₁_map c.requires.known (λ known. place-kept old new (length image) room c.args.pass image (known-journal old (length image) room c.args.pass image known) c.put_unplaced.ensures.puts (placed-keeps new image c.in_ok-put_unplaced.ensures.kept))

pub returns-in_err-put_unplaced-clause-opens : goal.returns-in_err-put_unplaced-clause-opens
returns-in_err-put_unplaced-clause-opens g c =
    let image = c.args.image.now.value.items in
    let room = c.args.room in
    let old = g.S.Storage.may_hold c.args.storage.now in
    let new = g.S.Storage.may_hold c.put_unplaced.new.storage in
    merely-opens new (length image) room image c.requires.known (λ known. place-opens old new (length image) room image (known-covers old (length image) room c.args.pass image known) c.put_unplaced.ensures.puts)

pub returns-in_err-put_unplaced-clause-tail : goal.returns-in_err-put_unplaced-clause-tail
returns-in_err-put_unplaced-clause-tail g c =
    let image = c.args.image.now.value.items in
    let old = g.S.Storage.may_hold c.args.storage.now in
    let new = g.S.Storage.may_hold c.put_unplaced.new.storage in
    names_before old new (length image) c.args.room 0 image (omega arith) c.put_unplaced.ensures.puts

pub returns-in_err-put_unplaced-clause-place : goal.returns-in_err-put_unplaced-clause-place
returns-in_err-put_unplaced-clause-place g c =
    let old = g.S.Storage.may_hold c.args.storage.now in
    let new = g.S.Storage.may_hold c.put_unplaced.new.storage in
    places_image old new c.args.image.now.value.items c.put_unplaced.ensures.puts

pub returns-clause-tail : goal.returns-clause-tail
returns-clause-tail g c names =
    let image = c.args.image.now.value.items in
    let old = g.S.Storage.may_hold c.args.storage.now in
    let mid = g.S.Storage.may_hold c.put_unplaced.new.storage in
    c.turn_off.ensures.tail (names_before old mid (length image) c.args.room 0 image (omega arith) c.put_unplaced.ensures.puts names)

pub returns-clause-place : goal.returns-clause-place
returns-clause-place g c =
    let image = c.args.image.now.value.items in
    let old = g.S.Storage.may_hold c.args.storage.now in
    let mid = g.S.Storage.may_hold c.put_unplaced.new.storage in
    let new = g.S.Storage.may_hold c.turn_off.new.storage in
    places_then old mid new image (places_image old mid image c.put_unplaced.ensures.puts) c.turn_off.ensures.place
