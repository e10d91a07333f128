use Rattle.std.proofs.Common.{◌≡◌, ◌∙◌, ap}
use Rattle.base.specs.Layout.{Layout, row_limit}
use Rattle.room.proofs.Runs.{comes-weaken}
use Rattle.store.proofs.store.Store.begin.Goals as goal

pub returns-clause-limit : goal.returns-clause-limit
returns-clause-limit g c =
    comes-weaken (λ q. c.args.self.now.layout ≡ q.layout) (λ q. c.row_limit.result ≡ row_limit q.layout.version)
    (λ q e. c.row_limit.ensures.value ∙ ap (λ (l : Layout). row_limit l.version) e) c.args.self.now.laid_out
