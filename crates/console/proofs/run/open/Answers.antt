use Rattle.base.specs.declared.fault.Fault.TheVariants.{OutOfMemory}
use Rattle.console.specs.Refusals.{IsOpeningFault}
use Rattle.console.proofs.Refusals.{opening-fault}
use Rattle.std.proofs.Common.{◌⊎◌, ◌≡◌, ◌∙◌, ap, subst}
use Rattle.base.specs.Images.{Image}
use Rattle.pmem.specs.Words.{image_of}
use Rattle.pmem.proofs.Restarted.{image-restarted}
use Rattle.pmem_model.specs.Sim.{device_of}
use Rattle.room.specs.Room.{Shows}
use Rattle.room.specs.Runs.{OpensTo}
use Rattle.console.proofs.run.open.Goals as goal

pub returns-in-Ok-clause-opens : goal.returns-in-Ok-clause-opens
returns-in-Ok-clause-opens g c =
    subst (λ (i : Image). OpensTo i (Shows device_of c.in-Ok.room)) (ap image_of c.in_ok-device.ensures.device ∙ image-restarted c.args.words.now)
    (record { may_open = c.in-Ok.ensures.may_open; each = c.in-Ok.ensures.ok })

pub returns-in-Err-clause-fault : goal.returns-in-Err-clause-fault
returns-in-Err-clause-fault g c =
    subst (λ (i : Image). (c.without_fuse.result ≡ OutOfMemory) ⊎ IsOpeningFault i c.without_fuse.result) (ap image_of c.in_ok-device.ensures.device ∙ image-restarted c.args.words.now)
    (opening-fault (image_of (device_of c.in_ok-device.device)) _ _ c.in-Err.fault c.without_fuse.result c.without_fuse.ensures.device c.without_fuse.ensures.other c.in-Err.ensures.fault)
