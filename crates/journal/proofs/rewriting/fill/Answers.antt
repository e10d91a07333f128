use Rattle.std.proofs.Common.{◌≡◌, ◌∙◌, inl, inr, ◌+◌, ◌-◌, ℕ, length, replicate, ap, arith}
use Rattle.std.proofs.Math.Logic.{∥∥₁_map}
use Rattle.journal.proofs.Files.{known-opens, merely-opens}
use Rattle.journal.proofs.Within.{both_ok}
use Rattle.journal.proofs.Turned.{fillings, fill-opens, fill-kept}
use Rattle.journal.proofs.Tails.{names_before, names_filled}
use Rattle.journal.proofs.Places.{places_behind, places_image, places_then}
use Rattle.journal.proofs.Placings.{placed-keeps, placed-still}
use Rattle.journal.proofs.rewriting.fill.Goals as goal

pub put_unplaced-requires-clause-placed : goal.put_unplaced-requires-clause-placed
put_unplaced-requires-clause-placed g c =
    let image = c.args.image.now.value.items in
    let old = g.S.Storage.may_hold c.args.storage.now in
    let mid = g.S.Storage.may_hold c.write.new.self in
    placed-still old mid c.args.unplaced.now.lines.items c.args.unplaced.now.marks.items image (places_behind old mid image (length image + c.args.position.words) _ (omega arith) (rw c.requires.size at c.write.ensures.found)) c.requires.placed

pub returns-in_err-rest-clause-opens : goal.returns-in_err-rest-clause-opens
returns-in_err-rest-clause-opens g c =
    let image = c.args.image.now.value.items in
    let old = g.S.Storage.may_hold c.args.storage.now in
    merely-opens old (length image) c.args.room image c.requires.known (λ known. known-opens old (length image) c.args.room c.args.position.pass image known.known)

pub returns-in_err-write-clause-opens : goal.returns-in_err-write-clause-opens
returns-in_err-write-clause-opens g c =
    let image = c.args.image.now.value.items in
    let words = length image in
    let room = c.args.room in
    let position = c.args.position in
    let old = g.S.Storage.may_hold c.args.storage.now in
    let new = g.S.Storage.may_hold c.write.new.self in
    let is : c.as_slice.result.now ≡ fillings position.pass (room - position.words) =
    c.as_slice.ensures.value ∙ c.in_ok-rest.ensures.items_if_clones_equal (λ y e. e) ∙ ap (λ (v : ℕ). replicate (room - position.words) v) c.bit_of.ensures in
    merely-opens new words room image c.requires.known (λ known.
    fill-opens old new words room position.pass position.words image c.requires.within known (λ word x h. inl ((rw c.requires.size at (rw is at c.write.ensures.found)) word x h)))

pub returns-clause-opens : goal.returns-clause-opens
returns-clause-opens g c =
    let image = c.args.image.now.value.items in
    let words = length image in
    let room = c.args.room in
    let position = c.args.position in
    let old = g.S.Storage.may_hold c.args.storage.now in
    let mid = g.S.Storage.may_hold c.write.new.self in
    let new = g.S.Storage.may_hold c.put_unplaced.new.storage in
    let is : c.as_slice.result.now ≡ fillings position.pass (room - position.words) =
    c.as_slice.ensures.value ∙ c.in_ok-rest.ensures.items_if_clones_equal (λ y e. e) ∙ ap (λ (v : ℕ). replicate (room - position.words) v) c.bit_of.ensures in
    let first = rw c.requires.size at (rw is at c.write.ensures.found) in
    merely-opens new words room image c.requires.known (λ known.
    fill-opens old new words room position.pass position.words image c.requires.within known (λ word x h. elim (c.put_unplaced.ensures.puts word x h) [
      | inl held ↦ inl (first word x held)
      | inr put ↦ inr put
    ]))

pub returns-clause-done : goal.returns-clause-done
returns-clause-done g c =
    let image = c.args.image.now.value.items in
    let words = length image in
    let room = c.args.room in
    let position = c.args.position in
    let old = g.S.Storage.may_hold c.args.storage.now in
    let shown = g.S.Storage.shows c.args.storage.now in
    let mid = g.S.Storage.shows c.write.new.self in
    let new = g.S.Storage.may_hold c.put_unplaced.new.storage in
    let is : c.as_slice.result.now ≡ fillings position.pass (room - position.words) =
    c.as_slice.ensures.value ∙ c.in_ok-rest.ensures.items_if_clones_equal (λ y e. e) ∙ ap (λ (v : ℕ). replicate (room - position.words) v) c.bit_of.ensures in
    let puts = rw c.requires.size at (rw is at c.write.ensures.others) in
    let keeps = rw c.requires.size at (rw is at c.in_ok-write.ensures.written) in
    both_ok c.put_unplaced.result (λ kept before. ∥∥₁_map c.requires.known (λ known.
    fill-kept old shown mid new words room position.pass position.words image c.requires.within (g.met.S.Storage.shown_is_found c.args.storage.now) known puts keeps before (placed-keeps new image kept))) c.put_unplaced.ensures.kept c.put_unplaced.ensures.shown

pub returns-in_err-write-clause-tail : goal.returns-in_err-write-clause-tail
returns-in_err-write-clause-tail g c =
    let image = c.args.image.now.value.items in
    let words = length image in
    let room = c.args.room in
    let position = c.args.position in
    let old = g.S.Storage.may_hold c.args.storage.now in
    let new = g.S.Storage.may_hold c.write.new.self in
    let is : c.as_slice.result.now ≡ fillings position.pass (room - position.words) =
    c.as_slice.ensures.value ∙ c.in_ok-rest.ensures.items_if_clones_equal (λ y e. e) ∙ ap (λ (v : ℕ). replicate (room - position.words) v) c.bit_of.ensures in
    names_filled old new words room position.words position.pass c.requires.within (rw c.requires.size at (rw is at c.write.ensures.found))

pub returns-clause-tail : goal.returns-clause-tail
returns-clause-tail g c names =
    let image = c.args.image.now.value.items in
    let words = length image in
    let room = c.args.room in
    let position = c.args.position in
    let old = g.S.Storage.may_hold c.args.storage.now in
    let mid = g.S.Storage.may_hold c.write.new.self in
    let new = g.S.Storage.may_hold c.put_unplaced.new.storage in
    let is : c.as_slice.result.now ≡ fillings position.pass (room - position.words) =
    c.as_slice.ensures.value ∙ c.in_ok-rest.ensures.items_if_clones_equal (λ y e. e) ∙ ap (λ (v : ℕ). replicate (room - position.words) v) c.bit_of.ensures in
    names_before mid new words room 0 image (omega arith) c.put_unplaced.ensures.puts (names_filled old mid words room position.words position.pass c.requires.within (rw c.requires.size at (rw is at c.write.ensures.found)) names)

pub returns-in_err-write-clause-place : goal.returns-in_err-write-clause-place
returns-in_err-write-clause-place g c =
    let image = c.args.image.now.value.items in
    let old = g.S.Storage.may_hold c.args.storage.now in
    let new = g.S.Storage.may_hold c.write.new.self in
    places_behind old new image (length image + c.args.position.words) _ (omega arith) (rw c.requires.size at c.write.ensures.found)

pub returns-clause-place : goal.returns-clause-place
returns-clause-place g c =
    let image = c.args.image.now.value.items in
    let old = g.S.Storage.may_hold c.args.storage.now in
    let mid = g.S.Storage.may_hold c.write.new.self in
    let new = g.S.Storage.may_hold c.put_unplaced.new.storage in
    places_then old mid new image (places_behind old mid image (length image + c.args.position.words) _ (omega arith) (rw c.requires.size at c.write.ensures.found)) (places_image mid new image c.put_unplaced.ensures.puts)
