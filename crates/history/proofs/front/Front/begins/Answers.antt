use Rattle.std.proofs.Common.{ap, subst, List, refl}
use mathlib.Core.List.{IsPrefix}
use Rattle.base.specs.declared.step.Step.{Step}
use Rattle.history.proofs.Fronts.{begins_test}
use Rattle.history.proofs.front.Front.begins.Goals as goal

pub returns-clause-prefix : goal.returns-clause-prefix
returns-clause-prefix g c =
    let both = c.learn.new.self.log in
    let this : IsPrefix c.self.inside.seen.log both = subst (λ (l : List Step). IsPrefix l both) (ap (λ s. s.log) c.again-both.ensures) c.learn.ensures.2 in
    rw (← c.self.view_is, ← c.other.view_is) (begins_test c.self.inside.seen.log c.other.inside.seen.log both c.self.inside.count c.other.inside.count c.self.invariant.0 c.other.invariant.0 this c.learn.ensures.3 _ refl)
