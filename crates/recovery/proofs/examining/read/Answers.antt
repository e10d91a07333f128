use Rattle.pmem.specs.Words.{image_of}
use Rattle.recovery.proofs.sweeps.Slots.{ruled-size}
use Rattle.recovery.proofs.openings.Devices.{under}
use Rattle.recovery.proofs.examining.read.Goals as goal

pub read_slots-requires-clause-size : goal.read_slots-requires-clause-size
read_slots-requires-clause-size g c κs within = ruled-size (g.D.Pmem.state c.args.device.now) c.in-Ok.found.geometry c.in-Ok.found.record c.in-Ok.ensures.ok

pub read_slots-requires-clause-under : goal.read_slots-requires-clause-under
read_slots-requires-clause-under g c κs within = under c.in-Ok.found.geometry c.in-Ok.found.record (image_of (g.D.Pmem.state c.args.device.now)) c.in-Ok.ensures.ok
