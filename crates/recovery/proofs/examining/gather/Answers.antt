use Rattle.pmem.specs.Words.{image_of}
use Rattle.recovery.proofs.openings.Devices.{may-rule}
use Rattle.recovery.proofs.examining.gather.Goals as goal

pub opened_gaps-gaps-requires : goal.opened_gaps-gaps-requires
opened_gaps-gaps-requires g c = may-rule c.args.readings.now.geometry c.args.readings.now.ruling (image_of (g.D.Pmem.state c.args.device.now)) c.requires
