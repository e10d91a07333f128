use Rattle.std.proofs.Common.{refl, subst}
use Rattle.store.specs.Files.{IsUnopened}
use Rattle.store.proofs.Opening.{damaged-so}
use Rattle.store.proofs.store.refused.Goals as goal

pub returns-in-Damaged-clause-names : goal.returns-in-Damaged-clause-names
returns-in-Damaged-clause-names c = (
  refl,
  (
    c.in-Damaged.number,
    c.of.ensures,
    damaged-so c.args.geometry c.in-Damaged.number (subst (λ f. IsUnopened c.args.geometry f) c.in-Damaged.is c.requires.why),
  ),
)

pub returns-in-Damaged-clause-finding : goal.returns-in-Damaged-clause-finding
returns-in-Damaged-clause-finding c with_layout = (
  refl,
  (
    c.args.geometry,
    c.in-Damaged.number,
    c.of.ensures,
    damaged-so c.args.geometry c.in-Damaged.number (subst (λ f. IsUnopened c.args.geometry f) c.in-Damaged.is c.requires.why),
  ),
)
