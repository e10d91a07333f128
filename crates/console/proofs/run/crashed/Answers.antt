use Rattle.std.proofs.Common.{List, ℕ, ◌≡◌, subst}
use Rattle.std.proofs.lemmas.Result.{IfOk-weaker}
use Rattle.pmem.specs.Device.{MayLeave, restarted}
use Rattle.pmem.specs.Words.{image_of}
use Rattle.pmem.proofs.Restarted.{of-restarted}
use Rattle.pmem_model.specs.Chosen.{IsChosen}
use Rattle.pmem_model.specs.Sim.{device_of}
use Rattle.pmem_model.specs.declared.choice.Choice.{Choice}
use Rattle.console.specs.Crash.{choice_of}
use Rattle.console.proofs.run.crashed.Goals as goal

pub returns-clause-chosen : goal.returns-clause-chosen
returns-clause-chosen c =
    let device = device_of c.args.device.now in
    IfOk-weaker c.crash.result
    (λ left. (image : List ℕ) × IsChosen c.choice_of.result device image × (device_of left ≡ restarted image))
    (λ left. IsChosen (choice_of c.args.keeps) device (image_of (device_of left)))
    (λ left made. subst (λ (choice : Choice). IsChosen choice device (image_of (device_of left))) c.choice_of.ensures (of-restarted (IsChosen c.choice_of.result device) (device_of left) made))
    c.crash.ensures.device

pub returns-clause-possible : goal.returns-clause-possible
returns-clause-possible c =
    let device = device_of c.args.device.now in
    IfOk-weaker c.crash.result
    (λ left. (image : List ℕ) × MayLeave device image × (device_of left ≡ restarted image))
    (λ left. MayLeave device (image_of (device_of left)))
    (λ left made. of-restarted (MayLeave device) (device_of left) made)
    c.crash.ensures.possible
