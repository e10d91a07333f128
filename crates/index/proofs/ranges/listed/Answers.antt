use Rattle.index.proofs.Bounds.{listed}
use Rattle.index.proofs.ranges.listed.Goals as goal

pub returns-in-Ok-clause-rows : goal.returns-in-Ok-clause-rows
returns-in-Ok-clause-rows c = λ tables has. listed c.args.rows c.in-Ok.list.items tables c.in-Ok.ensures.same c.in-Ok.ensures.ordered has
