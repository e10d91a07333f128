use Rattle.std.proofs.Common.{Bool, true, List, set, refl, sym, ◌∙◌, ap, arith}
use Rattle.number_set.proofs.Members.{below-limit, place-of, counted-few, inserted-members, inserted-holds, members-kept}
use Rattle.number_set.proofs.set.NumberSet.insert.Goals as goal

pub insert-requires : goal.insert-requires
insert-requires c =
    place-of c.self.inside.limit c.self.inside.count c.args.number c.self.inside.levels c.self.inside.levels c.self.invariant (below-limit c.self.inside.limit c.args.number c.self.inside.levels c.args.self.now c.self.view_is c.requires) refl

pub overflow_add-self : goal.overflow_add-self
overflow_add-self c =
    omega (
      arith,
      counted-few c.self.inside.limit c.self.inside.count c.args.number c.self.inside.levels c.self.inside.levels c.self.invariant
          (below-limit c.self.inside.limit c.args.number c.self.inside.levels c.args.self.now c.self.view_is c.requires) refl,
    )

pub invariant_of-self : goal.invariant_of-self
invariant_of-self c =
    inserted-holds c.self.inside.limit c.self.inside.count c.args.number c.self.inside.levels c.insert.new.self c.self.invariant (below-limit c.self.inside.limit c.args.number c.self.inside.levels c.args.self.now c.self.view_is c.requires)
    c.insert.ensures.size c.insert.ensures.is_in (sym c.contains.ensures ∙ c.if-not-contains.true)

pub returns-then-not-contains : goal.returns-then-not-contains
returns-then-not-contains c =
    inserted-members c.self.inside.limit c.self.inside.count c.args.number c.self.inside.levels c.insert.new.self c.self.invariant (below-limit c.self.inside.limit c.args.number c.self.inside.levels c.args.self.now c.self.view_is c.requires)
    c.insert.ensures.size c.insert.ensures.is_in
    ∙ ap (λ (l : List Bool). set l c.args.number true) c.self.view_is

pub returns-else-not-contains : goal.returns-else-not-contains
returns-else-not-contains c =
    let lt = below-limit c.self.inside.limit c.args.number c.self.inside.levels c.args.self.now c.self.view_is c.requires in
    sym c.self.view_is
    ∙ members-kept c.self.inside.limit c.args.number true c.self.inside.levels lt (sym c.contains.ensures ∙ c.if-not-contains.false)
    ∙ ap (λ (l : List Bool). set l c.args.number true) c.self.view_is
