use Rattle.std.proofs.Common.{Bool, false, List, set, refl, sym, ◌∙◌, ap}
use Rattle.number_set.proofs.Members.{below-limit, counted-some, removed-members, removed-holds, members-kept}
use Rattle.number_set.proofs.set.NumberSet.remove.Goals as goal

pub overflow_sub-self : goal.overflow_sub-self
overflow_sub-self c =
    counted-some c.self.inside.limit c.self.inside.count c.args.number c.self.inside.levels c.self.inside.levels c.self.invariant (below-limit c.self.inside.limit c.args.number c.self.inside.levels c.args.self.now c.self.view_is c.requires) refl
    (sym c.contains.ensures ∙ c.if-contains.true)

pub invariant_of-self : goal.invariant_of-self
invariant_of-self c =
    removed-holds c.self.inside.limit c.self.inside.count c.args.number c.self.inside.levels c.remove.new.self c.self.invariant (below-limit c.self.inside.limit c.args.number c.self.inside.levels c.args.self.now c.self.view_is c.requires)
    c.remove.ensures.size c.remove.ensures.is_in (sym c.contains.ensures ∙ c.if-contains.true)

pub returns-then-contains : goal.returns-then-contains
returns-then-contains c =
    removed-members c.self.inside.limit c.self.inside.count c.args.number c.self.inside.levels c.remove.new.self c.self.invariant (below-limit c.self.inside.limit c.args.number c.self.inside.levels c.args.self.now c.self.view_is c.requires)
    c.remove.ensures.size c.remove.ensures.is_in
    ∙ ap (λ (l : List Bool). set l c.args.number false) c.self.view_is

pub returns-else-contains : goal.returns-else-contains
returns-else-contains c =
    let lt = below-limit c.self.inside.limit c.args.number c.self.inside.levels c.args.self.now c.self.view_is c.requires in
    sym c.self.view_is
    ∙ members-kept c.self.inside.limit c.args.number false c.self.inside.levels lt (sym c.contains.ensures ∙ c.if-contains.false)
    ∙ ap (λ (l : List Bool). set l c.args.number false) c.self.view_is
