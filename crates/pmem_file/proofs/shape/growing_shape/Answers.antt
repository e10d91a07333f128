use Rattle.std.proofs.Common.{◌≡◌, ◌+◌, ◌∙◌, Option, None, Some, drop, length, subst, sym, take, IfNone, IfSome}
use Rattle.base.specs.Layout.{Layout}
use Rattle.pmem_file.specs.declared.shape.Shape.{Shape}
use Rattle.pmem_file.specs.Shapes.{IsGrowing, IsImageOf, IsNothingBehind}
use Rattle.pmem_file.proofs.Shapes.{no-growing, none-growing, own-of}
use Rattle.pmem_file.proofs.shape.growing_shape.Goals as goal

nothing_found : (found : Option Layout) (own : Layout) → found ≡ None → found ≡ Some own → ⊥
nothing_found found own none some = subst (λ (o : Option Layout). IfSome o (λ l. ⊥)) (sym none ∙ some) tt

pub returns-in_err-own-clause-none : goal.returns-in_err-own-clause-none
returns-in_err-own-clause-none c =
    let is = λ (g : IsGrowing c.args.asked.now c.args.file.now). c.or.ensures ∙ own-of c.args.asked.now c.own_geometry.result c.args.file.now c.own_geometry.ensures.some c.own_geometry.ensures.limits c.own_geometry.ensures.none g in
    subst (λ (found : Option Shape). IfNone found (¬ IsGrowing c.args.asked.now c.args.file.now)) (sym c.from_residual.ensures) (λ g. nothing_found c.or.result g.layout c.in_err-own.was (is g))

pub returns-in-None-clause-none : goal.returns-in-None-clause-none
returns-in-None-clause-none c =
    let asked = c.args.asked.now in
    let file = c.args.file.now in
    let new = c.new.result in
    none-growing c.grown_shape-in-None.result
    (no-growing asked c.in_ok-own.own file new c.older.result
    (λ g. cc (sym c.in_ok-own.was ∙ c.or.ensures ∙ own-of asked c.own_geometry.result file c.own_geometry.ensures.some c.own_geometry.ensures.limits c.own_geometry.ensures.none g))
    c.new.ensures.made c.new.ensures.room c.older.ensures.made c.older.ensures.room
    (subst (λ (found : Option Shape). IfNone found ((own : Layout) → length file ≡ new.words + new.room + 8 → IsNothingBehind new.words new.room (drop new.words file) → ¬ IsImageOf asked own (take new.words file))) c.in-None.is
    c.grown_shape.ensures.none))
    c.grown_shape-in-None.ensures.none
