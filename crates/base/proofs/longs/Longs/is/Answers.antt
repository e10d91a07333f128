use Rattle.std.proofs.Common.{sym, ◌∙◌}
use Rattle.std.specs.Cmp.{unsigned_Decides}
use Rattle.std.specs.Cmp.Lexicographic.{pointwise_decides}
use Rattle.base.proofs.longs.Longs.is.Goals as goal

pub returns : goal.returns
returns c =
    let decides = pointwise_decides unsigned_Decides c.as_slice.result.now c.as_slice-2.result.now in (
      λ is. sym c.as_slice.ensures.slice ∙ (decides.0 (sym c.eq.ensures ∙ is) ∙ c.as_slice-2.ensures.slice),
      λ same. c.eq.ensures ∙ decides.1 (c.as_slice.ensures.slice ∙ (same ∙ sym c.as_slice-2.ensures.slice)),
    )
