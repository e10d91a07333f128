use Rattle.base.specs.declared.fault.Fault.TheVariants.{OutOfMemory}
use Rattle.pmem.specs.Words.{image_of}
use Rattle.recovery.proofs.openings.Devices.{is, refuses-memory}
use Rattle.recovery.proofs.reads.Images.{tells-examined}
use Rattle.room.proofs.openings.Shown.{are-few}
use Rattle.room.proofs.opening.learn.Goals as goal

pub returns-in-Err-hinted_entries-clause-fault : goal.returns-in-Err-hinted_entries-clause-fault
returns-in-Err-hinted_entries-clause-fault g c =
    let image = image_of (g.D.Pmem.state c.args.device.now) in
    let found = c.in-Ok.found.examined in
    refuses-memory found.geometry found.ruling image (is image found.geometry found.ruling found.gaps found.free.items c.in-Ok.found.live.items c.in-Ok.ensures.ok.examined).rules

pub returns-in-Err-hinted_entries-clause-log : goal.returns-in-Err-hinted_entries-clause-log
returns-in-Err-hinted_entries-clause-log g c =
    let found = c.in-Ok.found.examined in
    tells-examined (image_of (g.D.Pmem.state c.args.device.now)) found.geometry found.ruling found.gaps found.free.items c.in-Ok.found.live.items c.in-Ok.ensures.ok.examined OutOfMemory

pub hinted_entries-requires : goal.hinted_entries-requires
hinted_entries-requires g c =
    let image = image_of (g.D.Pmem.state c.args.device.now) in
    let found = c.in-Ok.found.examined in
    are-few image found.geometry found.ruling found.gaps found.free.items c.in-Ok.found.live.items c.in-Ok.ensures.ok.examined
