use Rattle.std.proofs.Common.{◌∙◌, sym}
use Rattle.store.proofs.files.refusal_of.Goals as goal

pub returns-in-Some-clause-why : goal.returns-in-Some-clause-why
returns-in-Some-clause-why c layout unopened = (c.args.device, sym c.failure.ensures ∙ c.in-Some.is)

pub returns-in-Some-clause-found : goal.returns-in-Some-clause-found
returns-in-Some-clause-found c layout refused = (c.args.device, sym c.failure.ensures ∙ c.in-Some.is)
