use Rattle.std.proofs.Common.{inl, ℕ, Bool, List, length, sym, ap, subst, arith}
use Rattle.journal.specs.Files.{tail_of}
use Rattle.journal.specs.States.{HoldsTail}
use Rattle.journal.proofs.Files.{covers-opens, merely-opens, on_ok}
use Rattle.journal.proofs.Places.{part_off, part_placed}
use Rattle.journal.proofs.Placings.{any_ok, placed-still}
use Rattle.journal.proofs.rewriting.bring_to_rest.Goals as goal

pub returns-in_err-clear-clause-tail : goal.returns-in_err-clear-clause-tail
returns-in_err-clear-clause-tail g c names = c.clear.ensures.tail (c.turn_off.ensures.tail (c.put_in_place.ensures.tail names))

pub returns-in_err-turn_off-clause-first : goal.returns-in_err-turn_off-clause-first
returns-in_err-turn_off-clause-first g c pass first = inl (c.turn_off.ensures.first pass (c.put_in_place.ensures.first first))

pub returns-in_err-clear-clause-first : goal.returns-in_err-clear-clause-first
returns-in_err-clear-clause-first g c pass first = inl (c.clear.ensures.first (c.turn_off.ensures.first pass (c.put_in_place.ensures.first first)))

pub returns-in_err-check_part-clause-opens : goal.returns-in_err-check_part-clause-opens
returns-in_err-check_part-clause-opens g c covers =
    let image = c.args.written.now.value.items in
    let old = g.S.Storage.may_hold c.args.storage.now in
    merely-opens old (length image) c.args.room image covers (covers-opens old (length image) c.args.room image)

pub returns-clause-holds : goal.returns-clause-holds
returns-clause-holds g c =
    let image = c.args.written.now.value.items in
    let part = rw (sym c.requires.same) at c.in_ok-check_part.ensures in
    let off = g.S.Storage.may_hold c.turn_off.new.storage in
    let clear = g.S.Storage.may_hold c.clear.new.storage in
    let on = g.S.Storage.may_hold c.turn_on.new.storage in
    let holds = part_placed off clear c.args.room image part c.clear.ensures.place (part_off off c.args.room image part c.in_ok-turn_off.ensures.done) in
    on_ok c.turn_on.result (λ done. part_placed clear on c.args.room image part c.turn_on.ensures.place holds) c.turn_on.ensures.done

pub check_part-requires : goal.check_part-requires
check_part-requires g c = omega (arith, c.requires.fits, ap (λ (l : List ℕ). length l) c.requires.same)

pub turn_off-requires-clause-size : goal.turn_off-requires-clause-size
turn_off-requires-clause-size g c = ap (λ (l : List ℕ). length l) (sym c.requires.same)

pub clear-requires-clause-size : goal.clear-requires-clause-size
clear-requires-clause-size g c = ap (λ (l : List ℕ). length l) (sym c.requires.same)

pub turn_on-requires-clause-size : goal.turn_on-requires-clause-size
turn_on-requires-clause-size g c = ap (λ (l : List ℕ). length l) (sym c.requires.same)

pub returns-clause-part : goal.returns-clause-part
returns-clause-part g c = any_ok c.turn_on.result (rw (sym c.requires.same) at c.in_ok-check_part.ensures)

pub clear-requires-clause-blank : goal.clear-requires-clause-blank
clear-requires-clause-blank g c is =
    let words = length c.args.written.now.value.items in
    let blank = c.requires.blank is in
    (c.turn_off.ensures.zeros (c.put_in_place.ensures.zeros blank.1), subst (λ (p : Bool). HoldsTail (g.S.Storage.may_hold c.turn_off.new.storage) words c.args.room (tail_of 0 words c.args.room p)) blank.0 c.in_ok-turn_off.ensures.last)

pub returns-clause-placed : goal.returns-clause-placed
returns-clause-placed g c =
    let image = c.args.written.now.value.items in
    let placed = g.S.Storage.may_hold c.put_in_place.new.storage in
    let off = g.S.Storage.may_hold c.turn_off.new.storage in
    let clear = g.S.Storage.may_hold c.clear.new.storage in
    let on = g.S.Storage.may_hold c.turn_on.new.storage in
    any_ok c.turn_on.result
    (placed-still clear on _ _ image c.turn_on.ensures.place
    (placed-still off clear _ _ image c.clear.ensures.place
    (placed-still placed off _ _ image c.turn_off.ensures.place c.in_ok-put_in_place.ensures.placed)))
