-- The places of a line's stores in a log.
use Rattle.std.specs.Prelude.{ℕ, ◌+◌, List, slice_index_or, if◌then◌else◌, nat_lt, nat_le}
use Rattle.pmem_model.specs.declared.spans.Span.{Span}

-- a span without places
abbrev pub nowhere : Span
nowhere = record { from = 0; to = 0 }

-- the span of the line
abbrev pub span_at : List Span → ℕ → Span
span_at spans line = slice_index_or spans line nowhere

-- one for a span of some places
abbrev pub weight : Span → ℕ
weight span = if nat_lt span.from span.to then 1 else 0

-- with a store at this place too
abbrev pub grown : Span → ℕ → Span
grown span place = record { from = if nat_le span.to span.from then place else span.from; to = place + 1 }
