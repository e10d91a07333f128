use Rattle.std.proofs.Common.{◌-◌, ◌≤◌}
use Rattle.store.specs.Trying.{TriesInVain}
use Rattle.store.proofs.store.Store+R.transact_within.Given as goal

-- all tries so far were in vain
abbrev pub invariant-loop-made : goal.invariant-loop-made
invariant-loop-made g l =
    goal.F-IsAlwaysCallable g l.changes × (l._made - 1 ≤ l.tries - 1)
    × TriesInVain (goal.F-step g) (λ lent. lent.now.snapshot.reads.session) (l._made - 1) l.initial.changes l.changes
