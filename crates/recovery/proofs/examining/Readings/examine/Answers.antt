use Rattle.std.proofs.Common.{length, ◌∙◌, ap, arith}
use Rattle.log_area.proofs.AtRest.{fits_image}
use Rattle.pmem.specs.Words.{image_of}
use Rattle.recovery.proofs.openings.Devices.{formed-parts, refuses-slots, refuses-limit, refuses-memory, examined}
use Rattle.recovery.proofs.reads.Slots.{readings-size}
use Rattle.recovery.proofs.sweeps.Hits.{are-hits}
use Rattle.recovery.proofs.examining.Readings.examine.Goals as goal

pub held_slots-requires-clause-size : goal.held_slots-requires-clause-size
held_slots-requires-clause-size g c κs within = ap length (c.as_slice.ensures.value ∙ c.requires.read.slots_are) ∙ readings-size (image_of (g.D.Pmem.state c.args.device.now)) c.args.self.now.geometry.slots

pub returns-in-Err-clause-fault : goal.returns-in-Err-clause-fault
returns-in-Err-clause-fault g c = grind (arith, refuses-slots)

-- ---- the limit

pub is_near_limit-requires-clause-dirty : goal.is_near_limit-requires-clause-dirty
is_near_limit-requires-clause-dirty g c = (formed-parts c.args.self.now.geometry c.args.self.now.ruling (image_of (g.D.Pmem.state c.args.device.now)) c.requires.read.rules).limit

pub is_near_limit-requires-clause-gate : goal.is_near_limit-requires-clause-gate
is_near_limit-requires-clause-gate g c = (fits_image c.args.self.now.geometry c.args.self.now.ruling (image_of (g.D.Pmem.state c.args.device.now)) c.requires.read.rules).in_range

pub returns-then-is_near_limit-clause-fault : goal.returns-then-is_near_limit-clause-fault
returns-then-is_near_limit-clause-fault g c = grind (arith, refuses-limit)

-- ---- what is reported

pub gather-requires : goal.gather-requires
gather-requires g c = c.requires.read.rules

pub returns-in-Ok-gather-clause-ok : goal.returns-in-Ok-gather-clause-ok
returns-in-Ok-gather-clause-ok g c = grind (arith, examined, are-hits, c.in-Ok-gather.ensures, c.in-Ok.ensures.held, c.as_slice.ensures.value, c.is_near_limit.ensures, c.if-is_near_limit.false)

pub returns-in-Err-gather-clause-fault : goal.returns-in-Err-gather-clause-fault
returns-in-Err-gather-clause-fault g c = refuses-memory c.args.self.now.geometry c.args.self.now.ruling (image_of (g.D.Pmem.state c.args.device.now)) c.requires.read.rules
