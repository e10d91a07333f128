use Rattle.std.proofs.Common.{refl}
use Rattle.room.proofs.Calls.{leads-named, session-waits}
use Rattle.room.proofs.room.Room.step.Goals as goal

pub returns-in-Begin : goal.returns-in-Begin
returns-in-Begin g c = record { step = leads-named g.D.Pmem.state _ _ _ _ _ _ c.in-Begin.is c.began.ensures c.begin.ensures.step; waits = session-waits _ _ _ _ c.began.ensures c.begin.ensures.waits }

pub returns-in-Get : goal.returns-in-Get
returns-in-Get g c = record { step = leads-named g.D.Pmem.state _ _ _ _ _ _ c.in-Get.is c.read.ensures c.get.ensures.step; waits = session-waits _ _ _ _ c.read.ensures refl }

pub returns-in-Scan : goal.returns-in-Scan
returns-in-Scan g c = record { step = leads-named g.D.Pmem.state _ _ _ _ _ _ c.in-Scan.is c.scanned.ensures c.scan.ensures.step; waits = session-waits _ _ _ _ c.scanned.ensures refl }

pub returns-in-Put : goal.returns-in-Put
returns-in-Put g c = record { step = leads-named g.D.Pmem.state _ _ _ _ _ _ c.in-Put.is c.done.ensures c.put.ensures.step; waits = session-waits _ _ _ _ c.done.ensures c.put.ensures.waits }

pub returns-in-Delete : goal.returns-in-Delete
returns-in-Delete g c = record { step = leads-named g.D.Pmem.state _ _ _ _ _ _ c.in-Delete.is c.done-in-Delete.ensures c.delete.ensures.step; waits = session-waits _ _ _ _ c.done-in-Delete.ensures c.delete.ensures.waits }

pub returns-in-Draw : goal.returns-in-Draw
returns-in-Draw g c = record { step = leads-named g.D.Pmem.state _ _ _ _ _ _ c.in-Draw.is c.drawn.ensures c.draw.ensures.step; waits = session-waits _ _ _ _ c.drawn.ensures c.draw.ensures.waits }

pub returns-in-Stamp : goal.returns-in-Stamp
returns-in-Stamp g c = record { step = leads-named g.D.Pmem.state _ _ _ _ _ _ c.in-Stamp.is c.stamped.ensures c.stamp.ensures.step; waits = session-waits _ _ _ _ c.stamped.ensures c.stamp.ensures.waits }

pub returns-in-Poll : goal.returns-in-Poll
returns-in-Poll g c = record { step = leads-named g.D.Pmem.state _ _ _ _ _ _ c.in-Poll.is c.polled.ensures c.poll.ensures.step; waits = session-waits _ _ _ _ c.polled.ensures refl }

pub returns-in-Abort : goal.returns-in-Abort
returns-in-Abort g c = record { step = leads-named g.D.Pmem.state _ _ _ _ _ _ c.in-Abort.is c.done-in-Abort.ensures c.abort.ensures.step; waits = session-waits _ _ _ _ c.done-in-Abort.ensures c.abort.ensures.waits }

pub returns-in-End : goal.returns-in-End
returns-in-End g c = record { step = leads-named g.D.Pmem.state _ _ _ _ _ _ c.in-End.is c.done-in-End.ensures c.end.ensures.step; waits = session-waits _ _ _ _ c.done-in-End.ensures c.end.ensures.waits }

pub returns-in-Commit : goal.returns-in-Commit
returns-in-Commit g c = record { step = leads-named g.D.Pmem.state _ _ _ _ _ _ c.in-Commit.is refl c.tick.ensures.step; waits = c.tick.ensures.waits }

pub returns-in-Collect : goal.returns-in-Collect
returns-in-Collect g c = record { step = leads-named g.D.Pmem.state _ _ _ _ _ _ c.in-Collect.is refl c.visit.ensures.step; waits = c.visit.ensures.waits }
