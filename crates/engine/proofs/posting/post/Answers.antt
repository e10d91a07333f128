use Rattle.engine.specs.Posting.{IsLeftOf}
use Rattle.engine.proofs.Rising.{some_is}
use Rattle.engine.proofs.posting.post.Goals as goal

pub returns-in-Ok : goal.returns-in-Ok
returns-in-Ok g c = c.in-Ok.ensures.left c.args.batch c.loop.invariant

pub loop-preserved : goal.loop-preserved
loop-preserved g c = some_is (IsLeftOf c.args.batch) c.in-Err.rest c.in-Some-rest.rest (c.in-Err.ensures.left c.args.batch c.loop.invariant) c.in-Some-rest.is
