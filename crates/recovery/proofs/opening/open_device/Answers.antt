use Rattle.std.proofs.Common.{◌∙◌, ap, map}
use Rattle.base.specs.declared.fault.Fault.TheVariants.{OutOfMemory}
use Rattle.pmem.specs.Words.{image_of}
use Rattle.recovery.specs.Live.{opened_slot}
use Rattle.recovery.proofs.openings.Devices.{is, images-refused, version-refused, refusal-examined, refusal-device}
use Rattle.recovery.proofs.reads.Images.{tells-examined}
use Rattle.recovery.proofs.opening.open_device.Goals as goal

pub returns-in-Err-clause-fault : goal.returns-in-Err-clause-fault
returns-in-Err-clause-fault g c = refusal-examined (g.D.Pmem.state c.args.device.now) c.in-Err.fault c.in-Err.ensures.fault

-- a bound next to `Sync` holds wherever a thread may run, so it holds here too
pub returns-in-Err-clause-images : goal.returns-in-Err-clause-images
returns-in-Err-clause-images g c = images-refused (g.D.Pmem.state c.args.device.now) ((g.met.D.Pmem g.world.𝓛 g.world.𝓜 g.world.𝓡 ((λ s x. x), (λ x. x), (λ x. x), λ x. x)).orderly c.args.device.now) c.requires

pub returns-in-Err-clause-version : goal.returns-in-Err-clause-version
returns-in-Err-clause-version g c = version-refused (g.D.Pmem.state c.args.device.now) ((g.met.D.Pmem g.world.𝓛 g.world.𝓜 g.world.𝓡 ((λ s x. x), (λ x. x), (λ x. x), λ x. x)).orderly c.args.device.now) c.requires

pub with_begins-requires-clause-rules : goal.with_begins-requires-clause-rules
with_begins-requires-clause-rules g c =
    let found = c.in-Ok.found.examined in
    (found.ruling, (is (image_of (g.D.Pmem.state c.args.device.now)) found.geometry found.ruling found.gaps found.free.items c.in-Ok.found.live.items c.in-Ok.ensures.ok.examined).rules)

pub with_begins-requires-clause-live : goal.with_begins-requires-clause-live
with_begins-requires-clause-live g c =
    let found = c.in-Ok.found.examined in
    c.as_slice.ensures.value ∙ (is (image_of (g.D.Pmem.state c.args.device.now)) found.geometry found.ruling found.gaps found.free.items c.in-Ok.found.live.items c.in-Ok.ensures.ok.examined).live_are

pub returns-in_default-clause-log : goal.returns-in_default-clause-log
returns-in_default-clause-log g c =
    let found = c.in-Ok.found.examined in
    tells-examined (image_of (g.D.Pmem.state c.args.device.now)) found.geometry found.ruling found.gaps found.free.items c.in-Ok.found.live.items c.in-Ok.ensures.ok.examined OutOfMemory

pub returns-in_default-clause-images : goal.returns-in_default-clause-images
returns-in_default-clause-images g c = images-refused (g.D.Pmem.state c.args.device.now) ((g.met.D.Pmem g.world.𝓛 g.world.𝓜 g.world.𝓡 ((λ s x. x), (λ x. x), (λ x. x), λ x. x)).orderly c.args.device.now) c.requires

pub returns-in_default-clause-version : goal.returns-in_default-clause-version
returns-in_default-clause-version g c = version-refused (g.D.Pmem.state c.args.device.now) ((g.met.D.Pmem g.world.𝓛 g.world.𝓜 g.world.𝓡 ((λ s x. x), (λ x. x), (λ x. x), λ x. x)).orderly c.args.device.now) c.requires

pub returns-in-Ok-open-clause-ok : goal.returns-in-Ok-open-clause-ok
returns-in-Ok-open-clause-ok g c = (
  c.in-Ok.found.live.items,
  c.in-Ok-open.ensures.ok c.in-Ok.found.live.items c.in-Ok.ensures.ok.examined,
  c.in-Ok-with_begins.ensures ∙ ap (map (opened_slot (image_of (g.D.Pmem.state c.args.device.now)))) c.as_slice.ensures.value,
)

pub open-requires-clause-examined : goal.open-requires-clause-examined
open-requires-clause-examined g c = (c.in-Ok.found.live.items, c.in-Ok.ensures.ok.examined)

pub returns-clause-fault : goal.returns-clause-fault
returns-clause-fault g c =
    let found = c.in-Ok.found.examined in
    refusal-device (g.D.Pmem.state c.args.device.now) (g.D.Pmem.state c.open.new.device) c.in-Err-open.fault found.geometry found.ruling found.gaps found.free.items c.in-Ok.found.live.items c.in-Ok.ensures.ok.examined
    c.in-Err-open.ensures.fault c.in-Err-open.ensures.failed

pub returns-clause-log : goal.returns-clause-log
returns-clause-log g c =
    let found = c.in-Ok.found.examined in
    tells-examined (image_of (g.D.Pmem.state c.args.device.now)) found.geometry found.ruling found.gaps found.free.items c.in-Ok.found.live.items c.in-Ok.ensures.ok.examined c.in-Err-open.fault
