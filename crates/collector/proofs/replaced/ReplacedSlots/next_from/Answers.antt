use Rattle.std.proofs.Common.{Bool, List, length, ap, subst, arith, rules}
use Rattle.collector.proofs.Marks.{first-before, first-here, none-before, past-here}
use Rattle.number_set.specs.Numbers.{IsFirstFrom, IsNoneFrom}
use Rattle.collector.proofs.replaced.ReplacedSlots.next_from.Goals as goal

pub returns-in-Some-clause-above : goal.returns-in-Some-clause-above
returns-in-Some-clause-above c = c.in-Some.ensures.some.above

pub returns-in-Some-clause-before : goal.returns-in-Some-clause-before
returns-in-Some-clause-before c =
    first-before c.args.self.now c.args.slot c.in-Some.next (subst (λ (slots : List Bool). IsFirstFrom slots c.args.slot c.in-Some.next) c.self.view_is c.in-Some.ensures.some)

pub returns-in-Some-clause-here : goal.returns-in-Some-clause-here
returns-in-Some-clause-here c =
    first-here c.args.self.now c.args.slot c.in-Some.next (subst (λ (slots : List Bool). IsFirstFrom slots c.args.slot c.in-Some.next) c.self.view_is c.in-Some.ensures.some)

pub returns-in-None-clause-before : goal.returns-in-None-clause-before
returns-in-None-clause-before c = λ other low lt.
    none-before c.args.self.now c.args.slot c.self.inside.count (omega (arith, c.self.invariant, ap (λ (slots : List Bool). length slots) c.self.view_is))
    (subst (λ (slots : List Bool). IsNoneFrom slots c.args.slot) c.self.view_is c.in-None.ensures.none) other low (search rules)

pub returns-in-None-clause-here : goal.returns-in-None-clause-here
returns-in-None-clause-here c = past-here c.args.self.now c.args.slot _ (search rules)
