use Rattle.std.proofs.Common.{inl, ◌≡◌, ◌++◌, ◌∙◌, length, arith}
use Rattle.std.proofs.Math.Logic.{∥∥₁_map}
use Rattle.journal.proofs.Files.{blank-keeps, clear as cleared, clear-opens, clear-kept, merely-opens, on_ok}
use Rattle.journal.proofs.Tails.{names_cleared, names_clear, first_cleared}
use Rattle.journal.proofs.Places.{places_behind}
use Rattle.journal.proofs.rewriting.clear.Goals as goal

pub returns-then-is_blank-clause-opens : goal.returns-then-is_blank-clause-opens
returns-then-is_blank-clause-opens g c =
    let image = c.args.image.now.value.items in
    let old = g.S.Storage.may_hold c.args.storage.now in
    merely-opens old (length image) c.args.room image c.requires.known (λ known. clear-opens old old (length image) c.args.room image known (λ word x h. inl h))

pub returns-then-is_blank-clause-done : goal.returns-then-is_blank-clause-done
returns-then-is_blank-clause-done g c =
    let image = c.args.image.now.value.items in
    let words = length image in
    let old = g.S.Storage.may_hold c.args.storage.now in
    let blank = c.requires.blank c.if-is_blank.true in
    ∥∥₁_map c.requires.known (λ known. clear-kept old old words c.args.room image known (λ word x h. inl h) (blank-keeps old words c.args.room blank.0 blank.1))

pub returns-then-is_blank-clause-named : goal.returns-then-is_blank-clause-named
returns-then-is_blank-clause-named g c =
    let words = length c.args.image.now.value.items in
    let old = g.S.Storage.may_hold c.args.storage.now in
    let blank = c.requires.blank c.if-is_blank.true in
    names_clear old words c.args.room (blank-keeps old words c.args.room blank.0 blank.1)

pub returns-in_err-rest-clause-opens : goal.returns-in_err-rest-clause-opens
returns-in_err-rest-clause-opens g c =
    let image = c.args.image.now.value.items in
    let old = g.S.Storage.may_hold c.args.storage.now in
    merely-opens old (length image) c.args.room image c.requires.known (λ known. clear-opens old old (length image) c.args.room image known (λ word x h. inl h))

pub returns-in_err-extend_from_slice-clause-opens : goal.returns-in_err-extend_from_slice-clause-opens
returns-in_err-extend_from_slice-clause-opens g c =
    let image = c.args.image.now.value.items in
    let old = g.S.Storage.may_hold c.args.storage.now in
    merely-opens old (length image) c.args.room image c.requires.known (λ known. clear-opens old old (length image) c.args.room image known (λ word x h. inl h))

pub returns-clause-opens : goal.returns-clause-opens
returns-clause-opens g c =
    let image = c.args.image.now.value.items in
    let words = length image in
    let old = g.S.Storage.may_hold c.args.storage.now in
    let new = g.S.Storage.may_hold c.put.new.storage in
    let is : c.as_slice.result.now ≡ cleared c.args.words c.args.room = c.as_slice.ensures.value ∙ c.in_ok-extend_from_slice.ensures.items ∙ (λ i. c.in_ok-rest.ensures.items_if_clones_equal (λ y e. e) i ++ c.tail.ensures i) in
    merely-opens new words c.args.room image c.requires.known (λ known. clear-opens old new words c.args.room image known (rw c.requires.size at (rw is at c.put.ensures.puts)))

pub returns-clause-done : goal.returns-clause-done
returns-clause-done g c =
    let image = c.args.image.now.value.items in
    let words = length image in
    let old = g.S.Storage.may_hold c.args.storage.now in
    let new = g.S.Storage.may_hold c.put.new.storage in
    let is : c.as_slice.result.now ≡ cleared c.args.words c.args.room = c.as_slice.ensures.value ∙ c.in_ok-extend_from_slice.ensures.items ∙ (λ i. c.in_ok-rest.ensures.items_if_clones_equal (λ y e. e) i ++ c.tail.ensures i) in
    on_ok c.put.result (λ kept. ∥∥₁_map c.requires.known (λ known. clear-kept old new words c.args.room image known (rw c.requires.size at (rw is at c.put.ensures.puts)) kept)) (rw c.requires.size at (rw is at c.put.ensures.kept))

pub returns-clause-tail : goal.returns-clause-tail
returns-clause-tail g c =
    let image = c.args.image.now.value.items in
    let words = length image in
    let old = g.S.Storage.may_hold c.args.storage.now in
    let new = g.S.Storage.may_hold c.put.new.storage in
    let is : c.as_slice.result.now ≡ cleared c.args.words c.args.room = c.as_slice.ensures.value ∙ c.in_ok-extend_from_slice.ensures.items ∙ (λ i. c.in_ok-rest.ensures.items_if_clones_equal (λ y e. e) i ++ c.tail.ensures i) in
    names_cleared old new words c.args.room (rw c.requires.size at (rw is at c.put.ensures.puts))

pub returns-clause-named : goal.returns-clause-named
returns-clause-named g c =
    let image = c.args.image.now.value.items in
    let words = length image in
    let new = g.S.Storage.may_hold c.put.new.storage in
    let is : c.as_slice.result.now ≡ cleared c.args.words c.args.room = c.as_slice.ensures.value ∙ c.in_ok-extend_from_slice.ensures.items ∙ (λ i. c.in_ok-rest.ensures.items_if_clones_equal (λ y e. e) i ++ c.tail.ensures i) in
    on_ok c.put.result (names_clear new words c.args.room) (rw c.requires.size at (rw is at c.put.ensures.kept))

pub returns-clause-first : goal.returns-clause-first
returns-clause-first g c =
    let image = c.args.image.now.value.items in
    let words = length image in
    let old = g.S.Storage.may_hold c.args.storage.now in
    let new = g.S.Storage.may_hold c.put.new.storage in
    let is : c.as_slice.result.now ≡ cleared c.args.words c.args.room = c.as_slice.ensures.value ∙ c.in_ok-extend_from_slice.ensures.items ∙ (λ i. c.in_ok-rest.ensures.items_if_clones_equal (λ y e. e) i ++ c.tail.ensures i) in
    first_cleared old new words c.args.room (rw c.requires.size at (rw is at c.put.ensures.puts))

pub returns-clause-place : goal.returns-clause-place
returns-clause-place g c =
    let image = c.args.image.now.value.items in
    let old = g.S.Storage.may_hold c.args.storage.now in
    let new = g.S.Storage.may_hold c.put.new.storage in
    places_behind old new image (length image) _ (omega arith) (rw c.requires.size at c.put.ensures.puts)
