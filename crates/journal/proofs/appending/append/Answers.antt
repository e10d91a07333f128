use Rattle.std.proofs.Common.{◌≡◌, ℕ, ◌+◌, List, length, sym, ◌∙◌, subst, arith}
use Rattle.std.proofs.Math.Logic.{∥∥₁_map}
use Rattle.journal.specs.States.{Rests}
use Rattle.journal.proofs.Changes.{entry_size}
use Rattle.journal.proofs.Within.{rests_within}
use Rattle.journal.proofs.Appended.{rests-either, append-either, append-kept}
use Rattle.journal.proofs.Tails.{names_appended}
use Rattle.journal.proofs.Places.{places_behind}
use Rattle.journal.proofs.Decides.{decides_appended, decides_rests}
use Rattle.journal.proofs.Placings.{placed-still}
use Rattle.journal.proofs.appending.append.Goals as goal

pub returns-in_err-put_entry-clause-either : goal.returns-in_err-put_entry-clause-either
returns-in_err-put_entry-clause-either g c = grind (arith, rests-either)

pub returns-in_err-write-clause-either : goal.returns-in_err-write-clause-either
returns-in_err-write-clause-either g c =
    let durable = c.args.durable.now.value.items in
    let lines = c.args.changed.now in
    let changed = c.requires.changed in
    let old = g.S.Storage.may_hold c.args.storage.now in
    let new = g.S.Storage.may_hold c.write.new.self in
    let is = c.as_slice.ensures.value ∙ c.in_ok-put_entry.ensures in
    append-either old new (length durable) c.args.room c.args.position.pass c.args.position.words durable c.args.words.now lines c.requires.known changed.lines_are
    (omega (arith, entry_size c.args.position.pass lines changed.lines_are, c.requires.within)) c.requires.same (λ word lt. changed.makes word (omega (arith, lt, c.requires.same)))
    (rw c.requires.same at (rw is at c.write.ensures.found))

pub returns-clause-either : goal.returns-clause-either
returns-clause-either g c =
    let durable = c.args.durable.now.value.items in
    let lines = c.args.changed.now in
    let changed = c.requires.changed in
    let old = g.S.Storage.may_hold c.args.storage.now in
    let new = g.S.Storage.may_hold c.write.new.self in
    let is = c.as_slice.ensures.value ∙ c.in_ok-put_entry.ensures in
    append-either old new (length durable) c.args.room c.args.position.pass c.args.position.words durable c.args.words.now lines c.requires.known changed.lines_are
    (omega (arith, entry_size c.args.position.pass lines changed.lines_are, c.requires.within)) c.requires.same (λ word lt. changed.makes word (omega (arith, lt, c.requires.same)))
    (rw c.requires.same at (rw is at c.write.ensures.found))

pub returns-clause-rests : goal.returns-clause-rests
returns-clause-rests g c =
    let durable = c.args.durable.now.value.items in
    let words = c.args.words.now in
    let lines = c.args.changed.now in
    let changed = c.requires.changed in
    let held = g.S.Storage.may_hold c.args.storage.now in
    let old = g.S.Storage.shows c.args.storage.now in
    let new = g.S.Storage.shows c.write.new.self in
    let start : ℕ = length durable + c.args.position.words in
    let R : List ℕ → Type 0 = λ l. ∥ Rests new (length durable) c.args.room c.args.position.pass (c.args.position.words + length l) words ∥₁ in
    let made = c.in_ok-put_entry.ensures in
    let is = c.as_slice.ensures.value ∙ made in
    let count : c.len.result ≡ length c.put_entry.new.words.items = omega (arith, c.len.ensures, c.put_entry.new.words.ok.0) in
    let N : ℕ → Type 0 = λ n. ∥ Rests new (length durable) c.args.room c.args.position.pass (c.args.position.words + n) words ∥₁ in
    let known = rests_within held old (length durable) c.args.room c.args.position.pass c.args.position.words durable (g.met.S.Storage.shown_is_found c.args.storage.now) c.requires.known in
    subst N (sym count) (subst R (sym made) (∥∥₁_map known (λ r.
    append-kept old new (length durable) c.args.room c.args.position.pass c.args.position.words durable words lines r changed.lines_are
    (omega (arith, entry_size c.args.position.pass lines changed.lines_are, c.requires.within)) c.requires.same (λ word lt. changed.makes word (omega (arith, lt, c.requires.same)))
    (rw c.requires.same at (rw is at c.write.ensures.others)) (rw c.requires.same at (rw is at c.in_ok-write.ensures.written)))))

pub returns-in_err-write-clause-tail : goal.returns-in_err-write-clause-tail
returns-in_err-write-clause-tail g c =
    let words = length c.args.durable.now.value.items in
    let lines = c.args.changed.now in
    let position = c.args.position in
    let old = g.S.Storage.may_hold c.args.storage.now in
    let new = g.S.Storage.may_hold c.write.new.self in
    let is = c.as_slice.ensures.value ∙ c.in_ok-put_entry.ensures in
    names_appended old new words c.args.room position.words position.pass lines c.requires.changed.lines_are c.requires.within (rw c.requires.same at (rw is at c.write.ensures.found))

pub returns-clause-tail : goal.returns-clause-tail
returns-clause-tail g c =
    let words = length c.args.durable.now.value.items in
    let lines = c.args.changed.now in
    let position = c.args.position in
    let old = g.S.Storage.may_hold c.args.storage.now in
    let new = g.S.Storage.may_hold c.write.new.self in
    let is = c.as_slice.ensures.value ∙ c.in_ok-put_entry.ensures in
    names_appended old new words c.args.room position.words position.pass lines c.requires.changed.lines_are c.requires.within (rw c.requires.same at (rw is at c.write.ensures.found))

pub returns-in_err-write-clause-place : goal.returns-in_err-write-clause-place
returns-in_err-write-clause-place g c =
    let durable = c.args.durable.now.value.items in
    let old = g.S.Storage.may_hold c.args.storage.now in
    let new = g.S.Storage.may_hold c.write.new.self in
    places_behind old new durable (length durable + c.args.position.words) _ (omega arith) (rw c.requires.same at c.write.ensures.found)

pub returns-clause-place : goal.returns-clause-place
returns-clause-place g c =
    let durable = c.args.durable.now.value.items in
    let old = g.S.Storage.may_hold c.args.storage.now in
    let new = g.S.Storage.may_hold c.write.new.self in
    places_behind old new durable (length durable + c.args.position.words) _ (omega arith) (rw c.requires.same at c.write.ensures.found)

pub returns-in_err-put_entry-clause-decides : goal.returns-in_err-put_entry-clause-decides
returns-in_err-put_entry-clause-decides g c =
    let durable = c.args.durable.now.value.items in
    decides_rests (g.S.Storage.may_hold c.args.storage.now) (length durable) c.args.room c.args.position.pass c.args.position.words durable c.requires.known

pub returns-in_err-write-clause-decides : goal.returns-in_err-write-clause-decides
returns-in_err-write-clause-decides g c =
    let durable = c.args.durable.now.value.items in
    let old = g.S.Storage.may_hold c.args.storage.now in
    let new = g.S.Storage.may_hold c.write.new.self in
    decides_appended old new (length durable) c.args.room c.args.position.pass c.args.position.words durable (length durable + c.args.position.words) _ (omega arith) c.requires.known (rw c.requires.same at c.write.ensures.found)

pub returns-clause-decides : goal.returns-clause-decides
returns-clause-decides g c =
    let durable = c.args.durable.now.value.items in
    let old = g.S.Storage.may_hold c.args.storage.now in
    let new = g.S.Storage.may_hold c.write.new.self in
    decides_appended old new (length durable) c.args.room c.args.position.pass c.args.position.words durable (length durable + c.args.position.words) _ (omega arith) c.requires.known (rw c.requires.same at c.write.ensures.found)

pub returns-in_err-write-clause-placed : goal.returns-in_err-write-clause-placed
returns-in_err-write-clause-placed g c lines marks placed =
    let durable = c.args.durable.now.value.items in
    let old = g.S.Storage.may_hold c.args.storage.now in
    let new = g.S.Storage.may_hold c.write.new.self in
    placed-still old new lines marks durable (places_behind old new durable (length durable + c.args.position.words) _ (omega arith) (rw c.requires.same at c.write.ensures.found)) placed

pub returns-clause-placed : goal.returns-clause-placed
returns-clause-placed g c lines marks placed =
    let durable = c.args.durable.now.value.items in
    let old = g.S.Storage.may_hold c.args.storage.now in
    let new = g.S.Storage.may_hold c.write.new.self in
    placed-still old new lines marks durable (places_behind old new durable (length durable + c.args.position.words) _ (omega arith) (rw c.requires.same at c.write.ensures.found)) placed
