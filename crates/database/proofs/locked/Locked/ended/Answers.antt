use Rattle.database.proofs.Errors.{ended-in}
use Rattle.database.proofs.locked.Locked.ended.Goals as goal

pub returns-in-Some-clause-so : goal.returns-in-Some-clause-so
returns-in-Some-clause-so g c = ended-in g.D.Pmem.state c.in-Some.room.room c.in-Some.room.ended c.in-Some.room.run
