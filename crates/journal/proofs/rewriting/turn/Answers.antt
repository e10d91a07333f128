use Rattle.std.proofs.Common.{◌+◌, length, inr, refl, not, arith}
use Rattle.std.proofs.Math.Logic.{∥∥₁_map}
use Rattle.journal.proofs.Files.{merely-opens, on_ok}
use Rattle.journal.proofs.Turned.{turn-opens, turn-kept}
use Rattle.journal.specs.Files.{magic}
use Rattle.journal.proofs.Tails.{names_over}
use Rattle.journal.proofs.Places.{places_behind}
use Rattle.journal.proofs.rewriting.turn.Goals as goal

pub returns-clause-opens : goal.returns-clause-opens
returns-clause-opens g c =
    let image = c.args.image.now.value.items in
    let words = length image in
    let old = g.S.Storage.may_hold c.args.storage.now in
    let new = g.S.Storage.may_hold c.put.new.storage in
    merely-opens new words c.args.room image c.requires.known (λ known. turn-opens old new words c.args.room c.args.pass image known (rw c.requires.size at (rw c.tail.ensures at c.put.ensures.puts)))

pub returns-clause-done : goal.returns-clause-done
returns-clause-done g c =
    let image = c.args.image.now.value.items in
    let words = length image in
    let old = g.S.Storage.may_hold c.args.storage.now in
    let new = g.S.Storage.may_hold c.put.new.storage in
    on_ok c.put.result (λ kept. ∥∥₁_map c.requires.known (λ known. turn-kept old new words c.args.room c.args.pass image known (rw c.requires.size at (rw c.tail.ensures at c.put.ensures.puts)) kept)) (rw c.requires.size at (rw c.tail.ensures at c.put.ensures.kept))

pub returns-clause-tail : goal.returns-clause-tail
returns-clause-tail g c =
    let image = c.args.image.now.value.items in
    let old = g.S.Storage.may_hold c.args.storage.now in
    let new = g.S.Storage.may_hold c.put.new.storage in
    names_over old new magic (length image) c.args.room (not c.args.pass) (inr refl) (rw c.requires.size at (rw c.tail.ensures at c.put.ensures.puts))

pub returns-clause-place : goal.returns-clause-place
returns-clause-place g c =
    let image = c.args.image.now.value.items in
    let old = g.S.Storage.may_hold c.args.storage.now in
    let new = g.S.Storage.may_hold c.put.new.storage in
    places_behind old new image (length image + c.args.room) _ (omega arith) (rw c.requires.size at c.put.ensures.puts)
