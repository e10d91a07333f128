use Rattle.std.proofs.Common.{◌≡◌, ◌∙◌, ℕ, Bool, true, false, List, [], ◌∷◌, ◌==◌, length, refl, sym, subst, arith, rules}
use Rattle.std.specs.Prelude.{is_some}
use Rattle.std.specs.Bool.{OnTrue}
use Rattle.std.proofs.lemmas.Bool.{eqb-true}
use Rattle.journal.specs.Changes.{DiffersIn}
use Rattle.pmem.specs.Device.{MayLeave}
use Rattle.pmem_file.specs.Devices.{last_image, state_of}
use Rattle.pmem_file.proofs.Differences.{left-shown, same-nowhere}
use Rattle.pmem_file.proofs.Named.{image-shown}
use Rattle.pmem_file.proofs.journaled.JournaledPmem+JournaledImages+S.is_written.Goals as goal

on_true : (b : Bool) (P : Type 0) → (b ≡ true → P) → OnTrue b P
on_true true P holds = holds refl
on_true false P holds = tt

none : (lines : List ℕ) → (length lines == 0) ≡ true → lines ≡ []
none [] is = refl
none (line ∷ lines) is = absurd (omega (arith, eqb-true (length (line ∷ lines)) 0 is))

pub returns-then-not-is_failed-clause-same : goal.returns-then-not-is_failed-clause-same
returns-then-not-is_failed-clause-same g c =
    let now = c.args.self.now in
    let works : is_some now.images.failure ≡ false = search rules in
    on_true c.is_empty.result _ (λ empty.
    let lines : now.changed.lines ≡ [] = sym c.as_slice.ensures ∙ none c.as_slice.result.now (sym c.is_empty.ensures ∙ empty) in
    same-nowhere now.words.items (last_image now) (subst (λ (l : List ℕ). DiffersIn l now.words.items (last_image now)) lines (now.changes works (last_image now) refl))
    ∙ sym (image-shown (state_of now) now.words.items now.shown))

pub returns-then-not-is_failed-clause-left : goal.returns-then-not-is_failed-clause-left
returns-then-not-is_failed-clause-left g c =
    let now = c.args.self.now in
    let works : is_some now.images.failure ≡ false = search rules in
    on_true c.is_empty.result _ (λ empty.
    let lines : now.changed.lines ≡ [] = sym c.as_slice.ensures ∙ none c.as_slice.result.now (sym c.is_empty.ensures ∙ empty) in
    let same = same-nowhere now.words.items (last_image now) (subst (λ (l : List ℕ). DiffersIn l now.words.items (last_image now)) lines (now.changes works (last_image now) refl)) in
    subst (MayLeave (state_of now)) (sym same) (left-shown (state_of now) now.words.items now.shown))
