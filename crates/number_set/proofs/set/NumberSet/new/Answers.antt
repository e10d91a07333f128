use Rattle.std.proofs.Common.{◌/◌, ◌+◌}
use Rattle.number_set.proofs.Members.{none-holds, none-members}
use Rattle.number_set.proofs.set.NumberSet.new.Goals as goal

pub invariant_of-result : goal.invariant_of-result
invariant_of-result c = none-holds c.args.limit c.in_ok-levels.levels c.requires c.in_ok-levels.ensures

pub returns : goal.returns
returns c = none-members c.args.limit (c.args.limit / 64 + 1) _ c.in_ok-levels.ensures
