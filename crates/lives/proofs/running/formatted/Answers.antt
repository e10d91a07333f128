use Rattle.std.proofs.Common.{[], ◌≡◌, ◌∙◌, sym, subst}
use Rattle.std.proofs.lemmas.Result.{IfOk-weaker}
use Rattle.base.specs.Fresh.{fresh_image}
use Rattle.base.specs.Images.{Image}
use Rattle.base.specs.Stands.{Stands}
use Rattle.pmem.specs.Device.{MayLeave}
use Rattle.pmem.specs.Words.{image_of}
use Rattle.pmem.proofs.AtRest.{left_at_rest}
use Rattle.pmem_model.specs.Sim.{device_of}
use Rattle.lives.proofs.running.formatted.Goals as goal

pub returns-in-Ok-format-clause-image : goal.returns-in-Ok-format-clause-image
returns-in-Ok-format-clause-image c =
    let device = device_of c.format.new.device in
    IfOk-weaker c.stop.result
    (λ left. MayLeave device (image_of (device_of left)))
    (λ left. image_of (device_of left) ≡ fresh_image c.args.geometry)
    (λ left may. left_at_rest device c.in-Ok-format.ensures.rest (image_of (device_of left)) may ∙ c.in-Ok-format.ensures.image)
    c.stop.ensures.possible

pub returns-in-Ok-format-clause-empty : goal.returns-in-Ok-format-clause-empty
returns-in-Ok-format-clause-empty c =
    let device = device_of c.format.new.device in
    IfOk-weaker c.stop.result
    (λ left. MayLeave device (image_of (device_of left)))
    (λ left. Stands (image_of (device_of left)) [] [] 1)
    (λ left may. subst (λ (i : Image). Stands i [] [] 1) (sym (left_at_rest device c.in-Ok-format.ensures.rest (image_of (device_of left)) may)) c.in-Ok-format.ensures.empty.stands)
    c.stop.ensures.possible
