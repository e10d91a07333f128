use Rattle.std.proofs.Common.{sym, subst}
use Rattle.machine.specs.Machine.{StandsClosing}
use Rattle.pmem.specs.Words.{LeavesOnly}
use Rattle.room.specs.Closing.{IsClosingRefusal}
use Rattle.room.specs.Room.{Shows, device_of}
use Rattle.database.specs.Closing.{IsClosed, IsClosingRefused}
use Rattle.database.proofs.Runs.{closes-run}
use Rattle.database.proofs.closing.close_room.Goals as goal

pub returns-in-Ok-clause-ok : goal.returns-in-Ok-clause-ok
returns-in-Ok-clause-ok g c q shows = c.in-Ok.ensures.ok q (subst (λ r. Shows g.D.Pmem.state r q) (sym c.into_room.ensures.room) shows)

pub returns-in-Ok-clause-lived : goal.returns-in-Ok-clause-lived
returns-in-Ok-clause-lived g c =
    closes-run g.D.Pmem.state c.into_room.result (g.D.Pmem.state c.in-Ok.device) (IsClosed (g.D.Pmem.state c.in-Ok.device)) c.into_room.ensures.run c.in-Ok.ensures.images c.in-Ok.ensures.ok

pub returns-in-Err-clause-lived : goal.returns-in-Err-clause-lived
returns-in-Err-clause-lived g c =
    closes-run g.D.Pmem.state c.into_room.result (g.D.Pmem.state c.in-Err.device) (IsClosingRefused (g.D.Pmem.state c.in-Err.device) c.in-Err.fault) c.into_room.ensures.run c.in-Err.ensures.images
    (λ q shows. (device_of g.D.Pmem.state c.into_room.result, c.in-Err.ensures.fault q shows))

pub returns-in-Ok-clause-images : goal.returns-in-Ok-clause-images
returns-in-Ok-clause-images g c q shows =
    subst (λ r. LeavesOnly (device_of g.D.Pmem.state r) (g.D.Pmem.state c.in-Ok.device) (StandsClosing q)) c.into_room.ensures.room
    (c.in-Ok.ensures.images q (subst (λ r. Shows g.D.Pmem.state r q) (sym c.into_room.ensures.room) shows))

pub returns-in-Err-clause-images : goal.returns-in-Err-clause-images
returns-in-Err-clause-images g c q shows =
    subst (λ r. LeavesOnly (device_of g.D.Pmem.state r) (g.D.Pmem.state c.in-Err.device) (StandsClosing q)) c.into_room.ensures.room
    (c.in-Err.ensures.images q (subst (λ r. Shows g.D.Pmem.state r q) (sym c.into_room.ensures.room) shows))

pub returns-in-Err-clause-fault : goal.returns-in-Err-clause-fault
returns-in-Err-clause-fault g c q shows =
    subst (λ r. IsClosingRefusal q (device_of g.D.Pmem.state r) (g.D.Pmem.state c.in-Err.device) c.in-Err.fault) c.into_room.ensures.room
    (c.in-Err.ensures.fault q (subst (λ r. Shows g.D.Pmem.state r q) (sym c.into_room.ensures.room) shows))
