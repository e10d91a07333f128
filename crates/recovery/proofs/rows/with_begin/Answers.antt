use Rattle.std.proofs.Common.{◌∙◌, sym, lit<}
use Rattle.pmem.specs.Words.{image_of}
use Rattle.recovery.proofs.openings.Devices.{under}
use Rattle.recovery.proofs.reads.Visits.{word-same}
use Rattle.recovery.proofs.sweeps.Slots.{ruled-size}
use Rattle.recovery.proofs.rows.with_begin.Goals as goal

pub begin-requires-clause-device : goal.begin-requires-clause-device
begin-requires-clause-device g c = ruled-size (g.D.Pmem.state c.args.device.now) c.args.geometry c.requires.rules.0 c.requires.rules.1

pub returns : goal.returns
returns g c =
    let device = g.D.Pmem.state c.args.device.now in
    let size = ruled-size device c.args.geometry c.requires.rules.0 c.requires.rules.1 in
    λ i. record { key = c.args.live.key; slot = c.args.live.slot; begin = (c.begin.ensures ∙ sym (word-same device c.args.geometry c.requires.rules.0 c.args.live.slot size (under c.args.geometry c.requires.rules.0 (image_of device) c.requires.rules.1) c.requires.slot 0 (lit< tt))) i }
