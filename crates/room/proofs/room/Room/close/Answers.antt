use Rattle.std.proofs.Common.{◌∙◌}
use Rattle.machine.specs.Machine.{StandsClosing}
use Rattle.machine.proofs.Runs.{StandsAt-closing}
use Rattle.pmem.proofs.Images.{leaves_refl}
use Rattle.room.proofs.Rooms.{shows-some}
use Rattle.room.proofs.room.Room.close.Goals as goal

pub returns-then-failed-clause-images : goal.returns-then-failed-clause-images
returns-then-failed-clause-images g c = λ q shows.
    leaves_refl (g.D.Pmem.state c.args.self.device) (StandsClosing q) (g.met.D.Pmem.orderly c.args.self.device) (λ image left. StandsAt-closing q image (shows.stands image left))

pub close-requires : goal.close-requires
close-requires g c = record { shown = shows-some c.args.self.volatile (g.D.Pmem.state c.args.self.device) c.args.self.failed c.if-failed.false c.args.self.shown }

pub returns-in-Ok-clause-images : goal.returns-in-Ok-clause-images
returns-in-Ok-clause-images g c = λ q shows. c.in-Ok.ensures.images q shows.agrees.shown (shows.agrees.failed ∙ c.if-failed.false)

pub returns-in-Ok-clause-ok : goal.returns-in-Ok-clause-ok
returns-in-Ok-clause-ok g c = λ q shows. c.in-Ok.ensures.ok q shows.agrees.shown (shows.agrees.failed ∙ c.if-failed.false)

pub returns-clause-images : goal.returns-clause-images
returns-clause-images g c = λ q shows. c.in-Err.ensures.images q shows.agrees.shown (shows.agrees.failed ∙ c.if-failed.false)

pub returns-in-Ok-clause-may_close : goal.returns-in-Ok-clause-may_close
returns-in-Ok-clause-may_close g c = λ q shows. c.in-Ok.ensures.may_close q shows.agrees.shown (shows.agrees.failed ∙ c.if-failed.false)

pub returns-clause-fault : goal.returns-clause-fault
returns-clause-fault g c = λ q shows. c.in-Err.ensures.fault q shows.agrees.shown (shows.agrees.failed ∙ c.if-failed.false)
