use Rattle.std.proofs.Common.{inl, inr}
use Rattle.program.proofs.image.image_behind_journal.Goals as goal

pub returns-in-None-grown_image-clause-none : goal.returns-in-None-grown_image-clause-none
returns-in-None-grown_image-clause-none c none journaled = elim journaled [
  | inl named ↦ c.in-None.ensures.none none named.0 named.1 named.2 named.3
  | inr grown ↦ c.in-None-grown_image.ensures.none grown.0 grown.1
]
