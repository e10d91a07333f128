use Rattle.std.proofs.Common.{◌∙◌, inr, refl, sym}
use Rattle.store.proofs.store.not_closed.Goals as goal

pub returns-in-Some-clause-names : goal.returns-in-Some-clause-names
returns-in-Some-clause-names c = (refl, inr (c.args.fault, (c.args.device, sym c.failure.ensures ∙ c.in-Some.is, c.requires.refused)))

pub returns-in-None-clause-names : goal.returns-in-None-clause-names
returns-in-None-clause-names c = (refl, (c.args.device, sym c.failure.ensures ∙ c.in-None.is, c.requires.refused))
