use Rattle.std.proofs.Common.{rules}
use Rattle.workload.proofs.Tasked.{fresh-push}
use Rattle.workload.proofs.lending.add_tasks.Goals as goal

pub loop-preserved : goal.loop-preserved
loop-preserved g c = record { len = search rules; room = search rules; fresh = fresh-push _ _ _ _ c.push_reserved.ensures.items c.loop.invariant.fresh c.new.ensures.session c.in-Ok.ensures.empty }
