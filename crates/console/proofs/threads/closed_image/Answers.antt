use Rattle.std.proofs.Common.{◌∙◌, List, ℕ, ap, subst, sym}
use Rattle.std.proofs.lemmas.Result.{IfOk-weaker}
use Rattle.machine.specs.Machine.{StandsClosed}
use Rattle.pmem.specs.Words.{image_of}
use Rattle.pmem.proofs.Restarted.{image-restarted}
use Rattle.console.proofs.threads.closed_image.Goals as goal

pub returns-clause-closed : goal.returns-clause-closed
returns-clause-closed c =
    let left = c.in_ok-crash.ensures.possible in
    IfOk-weaker c.image.result _ _ (λ image same q shows.
    subst (λ (words : List ℕ). StandsClosed q words) (sym (same ∙ (ap image_of left.2 ∙ image-restarted left.0))) (c.in_ok-device.ensures.closed.each q shows left.0 left.1))
    c.image.ensures.image
