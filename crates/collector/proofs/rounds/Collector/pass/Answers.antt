use Rattle.std.proofs.Common.{◌≡◌, ◌+◌, ℕ, false, subst, rules}
use Rattle.std.specs.Prelude.{Some, slice_get}
use Rattle.collector.proofs.rounds.Collector.pass.Goals as goal

pub returns-clause-stops : goal.returns-clause-stops
returns-clause-stops c fewer is =
    let at : c.args.self.now.place + c.min-count.result ≡ c.next_from-next.result = search rules in
    c.next_from-next.ensures.here (subst (λ (slot : ℕ). slice_get c.args.replaced.now slot ≡ Some false) at is)
