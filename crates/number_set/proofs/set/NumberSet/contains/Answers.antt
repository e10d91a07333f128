use Rattle.std.proofs.Common.{Bool, List, sym, ◌∙◌, ap}
use Rattle.number_set.specs.Numbers.{has}
use Rattle.number_set.proofs.Members.{has-is}
use Rattle.number_set.proofs.set.NumberSet.contains.Goals as goal

pub returns : goal.returns
returns c = c.contains.ensures ∙ sym (has-is c.self.inside.limit c.self.inside.levels c.self.invariant.beyond c.args.number) ∙ ap (λ (set : List Bool). has set c.args.number) c.self.view_is
