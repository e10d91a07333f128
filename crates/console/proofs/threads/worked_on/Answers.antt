use Rattle.std.proofs.Common.{◌*◌, ◌∙◌, ap, subst}
use Rattle.base.specs.Images.{Image}
use Rattle.pmem.specs.Words.{image_of}
use Rattle.pmem.proofs.Restarted.{image-restarted}
use Rattle.pmem_model.specs.Sim.{device_of}
use Rattle.room.specs.Room.{Shows}
use Rattle.room.specs.Runs.{OpensTo}
use Rattle.workload.specs.Load.{HasFree, HasNumbers, IsLoadFault, MakesTo}
use Rattle.console.proofs.Working.{load-told}
use Rattle.console.proofs.threads.worked_on.Goals as goal

pub returns-in-Ok-clause-made : goal.returns-in-Ok-clause-made
returns-in-Ok-clause-made g c =
    subst (λ (i : Image). MakesTo i c.args.load.sessions c.args.load.commits (Shows device_of c.in-Ok.room)) (ap image_of c.in_ok-device.ensures.device ∙ image-restarted c.args.words.now) c.in-Ok.ensures.made

pub returns-in-Ok-clause-has_slots : goal.returns-in-Ok-clause-has_slots
returns-in-Ok-clause-has_slots g c =
    subst (λ (i : Image). OpensTo i (HasFree (2 * c.args.load.sessions))) (ap image_of c.in_ok-device.ensures.device ∙ image-restarted c.args.words.now)
    c.in-Ok.ensures.has_slots

pub returns-in-Ok-clause-has_numbers : goal.returns-in-Ok-clause-has_numbers
returns-in-Ok-clause-has_numbers g c =
    subst (λ (i : Image). OpensTo i (HasNumbers (c.args.load.sessions * c.args.load.commits))) (ap image_of c.in_ok-device.ensures.device ∙ image-restarted c.args.words.now)
    c.in-Ok.ensures.has_numbers

pub returns-in-Err-clause-fault : goal.returns-in-Err-clause-fault
returns-in-Err-clause-fault g c =
    load-told c.args.words.now c.args.load.sessions c.args.load.commits c.in-Err.fault c.without_fuse.result c.without_fuse.ensures.device c.without_fuse.ensures.other
    (subst (λ (i : Image). IsLoadFault i c.args.load.sessions c.args.load.commits c.in-Err.fault) (ap image_of c.in_ok-device.ensures.device ∙ image-restarted c.args.words.now) c.in-Err.ensures.fault)
