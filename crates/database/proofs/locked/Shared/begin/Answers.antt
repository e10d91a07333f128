use Rattle.std.proofs.Common.{ap}
use Rattle.database.specs.Obeys.{log_in}
use Rattle.database.proofs.Histories.{begins-in}
use Rattle.database.proofs.locked.Shared.begin.Goals as goal

pub returns-in-Ok-clause-begun : goal.returns-in-Ok-clause-begun
returns-in-Ok-clause-begun g c =
    begins-in g.J.Origin.opened c.args.is_kept c.in-Ok.session (log_in c.deref_mut.result.now.room) c.known_if-front.result c.begin.new.self.room c.deref.result.now.room c.in-Ok.ensures.log c.in-Ok.ensures.free c.known_if-front.ensures (ap (λ d. d.room) c.deref.ensures)
