use Rattle.std.proofs.Common.{◌∙◌, ap}
use Rattle.number_set.specs.Numbers.{count_of}
use Rattle.number_set.proofs.Members.{count-is}
use Rattle.number_set.proofs.set.NumberSet.count.Goals as goal

pub returns : goal.returns
returns c = count-is c.self.inside.limit c.self.inside.count c.self.inside.levels c.self.invariant ∙ ap count_of c.self.view_is
