-- How many lines aren't settled.
use Rattle.std.proofs.Common.{◌≤◌, List, length, arith}
use Rattle.std.specs.List.{sum_by}
use Rattle.std.proofs.lemmas.List.Sums.{sum_by-le}
use Rattle.pmem_model.specs.declared.spans.Span.{Span}
use Rattle.pmem_model.specs.Spans.{weight}

pub weight-most : (span : Span) → weight span ≤ 1
weight-most span = grind (arith)

pub weights-most : (spans : List Span) → sum_by weight spans ≤ length spans
weights-most spans = omega (arith, sum_by-le weight 1 spans (λ k d h. weight-most _))
