use Rattle.pmem.specs.Words.{image_of}
use Rattle.recovery.proofs.openings.Devices.{refuses-read}
use Rattle.recovery.proofs.examining.examine.Goals as goal

pub returns-in-Err-clause-fault : goal.returns-in-Err-clause-fault
returns-in-Err-clause-fault g c = refuses-read (image_of (g.D.Pmem.state c.args.device.now)) c.in-Err.fault c.in-Err.ensures.fault
