use Rattle.std.proofs.Common.{List, ℕ, ◌≡◌, sym, ◌∙◌, ap}
use Rattle.std.proofs.lemmas.Result.{IfOk-weaker}
use Rattle.pmem.specs.Device.{MayLeave, restarted}
use Rattle.pmem.specs.Words.{image_of}
use Rattle.pmem.proofs.Restarted.{image-restarted, of-restarted}
use Rattle.pmem_model.specs.Chosen.{IsChosen}
use Rattle.pmem_model.specs.Sim.{device_of}
use Rattle.lives.specs.Stops.{IsRestarted}
use Rattle.lives.proofs.ending.stop.Goals as goal

pub returns-clause-chosen : goal.returns-clause-chosen
returns-clause-chosen c =
    let device = device_of c.args.device.now in
    IfOk-weaker c.crash.result
    (λ left. (image : List ℕ) × IsChosen c.args.choice.now device image × (device_of left ≡ restarted image))
    (λ left. IsChosen c.args.choice.now device (image_of (device_of left)))
    (λ left made. of-restarted (IsChosen c.args.choice.now device) (device_of left) made)
    c.crash.ensures.device

pub returns-clause-possible : goal.returns-clause-possible
returns-clause-possible c =
    let device = device_of c.args.device.now in
    IfOk-weaker c.crash.result
    (λ left. (image : List ℕ) × MayLeave device image × (device_of left ≡ restarted image))
    (λ left. MayLeave device (image_of (device_of left)))
    (λ left made. of-restarted (MayLeave device) (device_of left) made)
    c.crash.ensures.possible

pub returns-clause-rests : goal.returns-clause-rests
returns-clause-rests c =
    let device = device_of c.args.device.now in
    IfOk-weaker c.crash.result
    (λ left. (image : List ℕ) × MayLeave device image × (device_of left ≡ restarted image))
    (λ left. IsRestarted (device_of left))
    (λ left made. made.2 ∙ ap restarted (sym (ap image_of made.2 ∙ image-restarted made.0)))
    c.crash.ensures.possible
