use Rattle.std.proofs.Common.{◌∙◌, ap, subst, IfErr, arith}
use Rattle.base.specs.Images.{Image}
use Rattle.pmem.specs.Words.{image_of}
use Rattle.pmem.proofs.Restarted.{image-restarted}
use Rattle.recovery.specs.Read.{IsReadRefusal}
use Rattle.recovery.proofs.reading.read_image.Goals as goal

pub returns-clause-ok : goal.returns-clause-ok
returns-clause-ok g c = grind (arith, image-restarted c.args.words.now, c.of.ensures, c.read_device.ensures.ok)

pub returns-clause-fault : goal.returns-clause-fault
returns-clause-fault g c =
    subst (λ (image : Image). IfErr c.read_device.result (IsReadRefusal image)) (ap image_of c.of.ensures ∙ image-restarted c.args.words.now) c.read_device.ensures.fault
