use Rattle.std.proofs.Common.{◌-◌, ◌≤◌}
use Rattle.store.specs.Trying.{TriesInVain}
use Rattle.store.specs.Working.{Works}
use Rattle.store.proofs.store.Store.transact_known.Given as goal

-- all tries so far were in vain
abbrev pub invariant-loop-made : goal.invariant-loop-made
invariant-loop-made g l = (l._made - 1 ≤ 1000 - 1) × TriesInVain (Works g.W.Work.does) (λ lent. lent.0) (l._made - 1) l.initial.work l.work
