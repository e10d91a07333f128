use Rattle.std.proofs.Common.{arith}
use Rattle.pmem.specs.Words.{image_of}
use Rattle.recovery.proofs.openings.Devices.{may-rule}
use Rattle.recovery.proofs.sweeps.Slots.{ruled-size}
use Rattle.recovery.proofs.sweeps.Hits.{hit-here}
use Rattle.recovery.proofs.sweeping.is_hit.Goals as goal

pub begin-begin-requires-clause-device : goal.begin-begin-requires-clause-device
begin-begin-requires-clause-device g c = ruled-size (g.D.Pmem.state c.args.device.now) c.args.geometry c.args.ruling c.requires.rules

pub end-end-requires-clause-device : goal.end-end-requires-clause-device
end-end-requires-clause-device g c = ruled-size (g.D.Pmem.state c.args.device.now) c.args.geometry c.args.ruling c.requires.rules

pub lies_in_gap-requires : goal.lies_in_gap-requires
lies_in_gap-requires g c = may-rule c.args.geometry c.args.ruling (image_of (g.D.Pmem.state c.args.device.now)) c.requires.rules

pub lies_in_gap-requires-else-lies_in_gap : goal.lies_in_gap-requires-else-lies_in_gap
lies_in_gap-requires-else-lies_in_gap g c = may-rule c.args.geometry c.args.ruling (image_of (g.D.Pmem.state c.args.device.now)) c.requires.rules

pub returns-then-lies_in_gap : goal.returns-then-lies_in_gap
returns-then-lies_in_gap g c =
    let device = g.D.Pmem.state c.args.device.now in
    let here = hit-here device c.args.geometry c.args.ruling c.args.slot c.begin-begin.result c.end-end.result (ruled-size device c.args.geometry c.args.ruling c.requires.rules) c.requires.rules c.requires.slot c.begin-begin.ensures c.end-end.ensures in
    grind (arith, here)

pub returns-else-lies_in_gap : goal.returns-else-lies_in_gap
returns-else-lies_in_gap g c =
    let device = g.D.Pmem.state c.args.device.now in
    let here = hit-here device c.args.geometry c.args.ruling c.args.slot c.begin-begin.result c.end-end.result (ruled-size device c.args.geometry c.args.ruling c.requires.rules) c.requires.rules c.requires.slot c.begin-begin.ensures c.end-end.ensures in
    grind (arith, here)
