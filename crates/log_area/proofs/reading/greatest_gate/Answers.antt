use Rattle.std.proofs.Common.{◌∙◌, ap, ℕ, max}
use Rattle.base.specs.Images.{gate_at}
use Rattle.pmem.specs.Words.{image_of}
use Rattle.log_area.proofs.Finding.{greatest_more}
use Rattle.log_area.proofs.reading.greatest_gate.Goals as goal

pub loop-place-preserved : goal.loop-place-preserved
loop-place-preserved g c =
    c.greater-greatest.ensures ∙ ap (λ (n : ℕ). max c.loop-place.greatest n) c.gate.ensures
    ∙ greatest_more (gate_at (image_of (g.D.Pmem.state c.args.device.now))) c.loop-place.place c.loop-place.greatest c.loop-place.invariant
