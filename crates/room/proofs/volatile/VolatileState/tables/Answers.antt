use Rattle.std.proofs.lemmas.Result.{IfOk-weaker}
use Rattle.room.proofs.volatile.VolatileState.tables.Goals as goal

pub returns-clause-ok : goal.returns-clause-ok
returns-clause-ok g c = IfOk-weaker c.tables.result _ _ (λ rows lists q shows. lists q shows.shown) c.tables.ensures.ok
