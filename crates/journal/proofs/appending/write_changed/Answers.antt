use Rattle.std.proofs.Common.{◌≡◌, ◌∙◌, ℕ, ◌-◌, List, [], ◌∷◌, length, refl, sym, subst, arith}
use Rattle.std.proofs.Math.Logic.{∥∥₁_elim}
use Rattle.std.proofs.Math.Nat.{ℕ_set}
use Rattle.std.proofs.lemmas.Bool.{eqb-true}
use Rattle.journal.specs.declared.line.Line.{Line}
use Rattle.journal.specs.States.{Rests}
use Rattle.journal.proofs.Changes.{unchanged}
use Rattle.journal.proofs.Within.{rests_within}
use Rattle.journal.proofs.Appended.{rests-behind, rests-either, opens-either}
use Rattle.journal.proofs.Decides.{decides_opens, decides_rests}
use Rattle.journal.proofs.Placings.{any_ok}
use Rattle.journal.proofs.appending.write_changed.Goals as goal

none : (lines : List Line) → length lines ≡ 0 → lines ≡ []
none [] is = refl
none (line ∷ lines) is = absurd (omega (arith, is))

pub returns-then-is_empty-clause-either : goal.returns-then-is_empty-clause-either
returns-then-is_empty-clause-either g c = grind (arith, rests-either)

pub returns-then-is_empty-clause-rests : goal.returns-then-is_empty-clause-rests
returns-then-is_empty-clause-rests g c =
    let durable = c.args.durable.now.value.items in
    let words = c.args.words.now in
    let empty : length c.args.changed.now ≡ 0 = eqb-true _ _ (sym c.is_empty.ensures ∙ c.if-is_empty.true) in
    let held = g.S.Storage.may_hold c.args.storage.now in
    let shown = g.S.Storage.shows c.args.storage.now in
    let R : List ℕ → Type 0 = λ l. ∥ Rests shown (length durable) c.args.room c.args.position.pass c.args.position.words l ∥₁ in
    subst R (sym (unchanged durable words (rw (none c.args.changed.now empty) at c.requires.changed) c.requires.same))
    (rests_within held shown (length durable) c.args.room c.args.position.pass c.args.position.words durable (g.met.S.Storage.shown_is_found c.args.storage.now) c.requires.known)

pub returns-then-size-room-clause-either : goal.returns-then-size-room-clause-either
returns-then-size-room-clause-either g c = grind (arith, rests-either)

pub begin_pass-requires-clause-within : goal.begin_pass-requires-clause-within
begin_pass-requires-clause-within g c =
    let durable = c.args.durable.now.value.items in
    let room = c.args.room in
    let position = c.args.position in
    let held = g.S.Storage.may_hold c.args.storage.now in
    let over : position.words - room ≡ 0 = ∥∥₁_elim c.requires.known (ℕ_set _ _) (λ r. omega (arith, (rests-behind held (length durable) room position.pass position.words durable r).all_size)) in
    omega (arith, over)

pub returns-in_err-begin_pass-clause-either : goal.returns-in_err-begin_pass-clause-either
returns-in_err-begin_pass-clause-either g c = grind (arith, opens-either (g.S.Storage.may_hold c.begin_pass.new.storage) (length c.args.durable.now.value.items) c.args.room c.args.durable.now.value.items c.args.words.now c.begin_pass.ensures.opens, c.begin_pass.ensures.opens)

pub returns-then-is_empty-clause-decides : goal.returns-then-is_empty-clause-decides
returns-then-is_empty-clause-decides g c =
    let durable = c.args.durable.now.value.items in
    decides_rests (g.S.Storage.may_hold c.args.storage.now) (length durable) c.args.room c.args.position.pass c.args.position.words durable c.requires.known

pub returns-then-size-room-clause-decides : goal.returns-then-size-room-clause-decides
returns-then-size-room-clause-decides g c =
    let durable = c.args.durable.now.value.items in
    decides_rests (g.S.Storage.may_hold c.args.storage.now) (length durable) c.args.room c.args.position.pass c.args.position.words durable c.requires.known

pub returns-in_err-begin_pass-clause-decides : goal.returns-in_err-begin_pass-clause-decides
returns-in_err-begin_pass-clause-decides g c =
    decides_opens (g.S.Storage.may_hold c.begin_pass.new.storage) (length c.args.durable.now.value.items) c.args.room c.args.durable.now.value.items c.begin_pass.ensures.opens

pub returns-clause-placed : goal.returns-clause-placed
returns-clause-placed g c = any_ok c.append-2.result (c.append-2.ensures.placed _ _ c.in_ok-begin_pass.ensures.placed)
