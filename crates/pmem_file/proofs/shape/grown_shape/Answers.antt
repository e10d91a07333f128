use Rattle.std.proofs.Common.{◌≡◌, ◌+◌, ◌∙◌, List, Option, ℕ, ap, drop, get_or, length, subst, sym, take, IfNone, arith}
use Rattle.std.proofs.lemmas.List.{length-take, get_or-drop, get_or-take}
use Rattle.base.specs.Layout.{Layout}
use Rattle.pmem_file.specs.declared.shape.Shape.{Shape}
use Rattle.pmem_file.specs.Shapes.{IsImageOf, IsNothingBehind, whole}
use Rattle.pmem_file.proofs.Shapes.{growing}
use Rattle.pmem_file.proofs.shape.grown_shape.Goals as goal

pub returns-in_err-own-clause-none : goal.returns-in_err-own-clause-none
returns-in_err-own-clause-none c =
    let shape = c.args.shape in
    let file : List ℕ = c.args.file.now in
    subst (λ (found : Option Shape). IfNone found ((own : Layout) → length file ≡ whole shape → IsNothingBehind shape.words shape.room (drop shape.words file) → ¬ IsImageOf c.args.asked.now own (take shape.words file)))
    (sym c.from_residual.ensures) (λ own size behind. c.in_err-own.ensures.none own)

pub returns-clause-some : goal.returns-clause-some
returns-clause-some c =
    let shape = c.args.shape in
    let file : List ℕ = c.args.file.now in
    let at : shape.words + shape.room ≡ shape.words + (shape.room + 0) = omega arith in
    let grown = c.is_grown.ensures.0 c.if-not-is_grown.false in
    growing c.args.asked.now c.in_ok-own.own file (take shape.words file) (record { words = shape.words; room = shape.room; places = c.places.result }) c.requires grown.0
    (omega (arith, grown.0, length-take shape.words file))
    (λ word lt. sym (get_or-take shape.words file word 0 lt))
    (ap (λ (n : ℕ). get_or file n 0) at ∙ sym (get_or-drop shape.words file (shape.room + 0) 0) ∙ sym (get_or-drop shape.room (drop shape.words file) 0 0) ∙ grown.1.tail.first)
    c.in_ok-own.ensures.some c.places.ensures.places
