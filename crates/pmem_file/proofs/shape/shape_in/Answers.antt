use Rattle.std.proofs.Common.{Option, subst, refl, IfSome, IfNone}
use Rattle.base.specs.Layout.{Layout}
use Rattle.pmem_file.specs.Shapes.{IsImageOf}
use Rattle.pmem_file.proofs.Shapes.{alone, names-alone, names-tail, names-none, no-ours, no-ours-tail, none-of, none-growing}
use Rattle.pmem_file.proofs.shape.shape_in.Goals as goal

pub returns-in-Some-clause-some : goal.returns-in-Some-clause-some
returns-in-Some-clause-some c =
    alone c.args.asked.now c.in-Some.own c.args.file.now c.new.result
    (subst (λ (found : Option Layout). IfSome found (λ own. IsImageOf c.args.asked.now own c.args.file.now)) c.in-Some.is c.layout_of.ensures.some) c.new.ensures.made

pub returns-in-Some-extent_of-clause-none : goal.returns-in-Some-extent_of-clause-none
returns-in-Some-extent_of-clause-none c =
    let whole_not = subst (λ (found : Option Layout). IfNone found ((own : Layout) → ¬ IsImageOf c.args.asked.now own c.args.file.now)) c.in-None.is c.layout_of.ensures.none in
    none-of c.journaled_shape.result
    (no-ours-tail c.args.asked.now c.args.file.now c.in-Some-extent_of.words c.in-Some-extent_of.room whole_not c.in-Some-extent_of.ensures.size c.in-Some-extent_of.ensures.tail) c.journaled_shape.ensures.none

pub returns-in-None-extent_of-clause-none : goal.returns-in-None-extent_of-clause-none
returns-in-None-extent_of-clause-none c =
    let whole_not = subst (λ (found : Option Layout). IfNone found ((own : Layout) → ¬ IsImageOf c.args.asked.now own c.args.file.now)) c.in-None.is c.layout_of.ensures.none in
    none-growing c.growing_shape.result (no-ours c.args.asked.now c.args.file.now whole_not (c.in-None-extent_of.ensures.none refl)) c.growing_shape.ensures.none

pub returns-in-Some-clause-named : goal.returns-in-Some-clause-named
returns-in-Some-clause-named c =
    names-alone c.args.asked.now c.in-Some.own c.args.file.now c.new.result
    (subst (λ (found : Option Layout). IfSome found (λ own. IsImageOf c.args.asked.now own c.args.file.now)) c.in-Some.is c.layout_of.ensures.some)

pub returns-in-Some-extent_of-clause-named : goal.returns-in-Some-extent_of-clause-named
returns-in-Some-extent_of-clause-named c =
    names-tail c.args.asked.now c.args.file.now c.in-Some-extent_of.words c.in-Some-extent_of.room c.journaled_shape.result c.in-Some-extent_of.ensures.size c.in-Some-extent_of.ensures.tail c.journaled_shape.ensures.named

pub returns-in-None-extent_of-clause-named : goal.returns-in-None-extent_of-clause-named
returns-in-None-extent_of-clause-named c = names-none c.args.asked.now c.args.file.now c.growing_shape.result (c.in-None-extent_of.ensures.none refl)
