use Rattle.std.proofs.Common.{ap, length, arith, subst, sym}
use Rattle.base.specs.Published.{Published}
use Rattle.engine.specs.Started.{IsStartedOn}
use Rattle.engine.proofs.engine.Engine+D+J+Board+J+R.start.Goals as goal

pub returns-clause-first : goal.returns-clause-first
returns-clause-first g c = omega (arith, ap length c.history.ensures.entries)

pub returns-clause-published : goal.returns-clause-published
returns-clause-published g c = λ q shows. subst (λ (list : Published). IsStartedOn q list) (sym c.token-published.ensures) (c.in-Ok.ensures.board q shows)
