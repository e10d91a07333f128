use Rattle.std.proofs.Common.{refl}
use Rattle.room.proofs.Calls.{leads-named, visit-waits}
use Rattle.room.proofs.room.Room.visit.Goals as goal

pub returns : goal.returns
returns g c = record { step = leads-named g.D.Pmem.state _ _ _ _ _ _ refl c.visited.ensures c.collect.ensures.step; waits = visit-waits _ _ _ _ c.visited.ensures c.collect.ensures.waits }
