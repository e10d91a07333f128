use Rattle.std.proofs.Common.{◌+◌, length, inl, refl, arith}
use Rattle.std.proofs.Math.Logic.{∥∥₁_map}
use Rattle.journal.proofs.Files.{off-opens, off-kept, merely-opens, on_ok, tail-kept, zeros-beside}
use Rattle.journal.proofs.Tails.{names_over, first_over}
use Rattle.journal.proofs.Places.{places_behind}
use Rattle.journal.specs.Files.{tail_of}
use Rattle.journal.proofs.rewriting.turn_off.Goals as goal

pub returns-clause-opens : goal.returns-clause-opens
returns-clause-opens g c =
    let image = c.args.image.now.value.items in
    let words = length image in
    let old = g.S.Storage.may_hold c.args.storage.now in
    let new = g.S.Storage.may_hold c.put.new.storage in
    merely-opens new words c.args.room image c.requires.known (λ known. off-opens _ _ old new words c.args.room c.args.pass image known (rw c.requires.size at (rw c.tail.ensures at c.put.ensures.puts)))

pub returns-clause-done : goal.returns-clause-done
returns-clause-done g c =
    let image = c.args.image.now.value.items in
    let words = length image in
    let old = g.S.Storage.may_hold c.args.storage.now in
    let new = g.S.Storage.may_hold c.put.new.storage in
    on_ok c.put.result (λ kept. ∥∥₁_map c.requires.known (λ known. off-kept _ _ old new words c.args.room c.args.pass image known (rw c.requires.size at (rw c.tail.ensures at c.put.ensures.puts)) kept)) (rw c.requires.size at (rw c.tail.ensures at c.put.ensures.kept))

pub returns-clause-tail : goal.returns-clause-tail
returns-clause-tail g c =
    let image = c.args.image.now.value.items in
    let old = g.S.Storage.may_hold c.args.storage.now in
    let new = g.S.Storage.may_hold c.put.new.storage in
    names_over old new 0 (length image) c.args.room c.args.pass (inl refl) (rw c.requires.size at (rw c.tail.ensures at c.put.ensures.puts))

pub returns-clause-first : goal.returns-clause-first
returns-clause-first g c first =
    let words = length c.args.image.now.value.items in
    let old = g.S.Storage.may_hold c.args.storage.now in
    let new = g.S.Storage.may_hold c.put.new.storage in
    first_over old new words c.args.room (rw first at (rw c.requires.size at (rw c.tail.ensures at c.put.ensures.puts)))

pub returns-clause-place : goal.returns-clause-place
returns-clause-place g c =
    let image = c.args.image.now.value.items in
    let old = g.S.Storage.may_hold c.args.storage.now in
    let new = g.S.Storage.may_hold c.put.new.storage in
    places_behind old new image (length image + c.args.room) _ (omega arith) (rw c.requires.size at c.put.ensures.puts)

pub returns-clause-zeros : goal.returns-clause-zeros
returns-clause-zeros g c =
    let words = length c.args.image.now.value.items in
    let old = g.S.Storage.may_hold c.args.storage.now in
    let new = g.S.Storage.may_hold c.put.new.storage in
    zeros-beside old new words c.args.room (words + c.args.room) (tail_of 0 words c.args.room c.args.pass) (rw c.requires.size at (rw c.tail.ensures at c.put.ensures.puts)) (λ word above below from lt. omega (arith, below, from))

pub returns-clause-last : goal.returns-clause-last
returns-clause-last g c =
    let words = length c.args.image.now.value.items in
    let new = g.S.Storage.may_hold c.put.new.storage in
    on_ok c.put.result (tail-kept new words c.args.room 0 c.args.pass) (rw c.requires.size at (rw c.tail.ensures at c.put.ensures.kept))
