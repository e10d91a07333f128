-- What a tick that covers a batch does.
use Rattle.std.proofs.Common.{◌≡◌, Bool, ◌++◌, sym, subst, cond, arith}
use Rattle.std.specs.Prelude.{Option, Some, None}
use Rattle.base.specs.declared.step.Step.TheVariants.{Commit as CommitTick}
use Rattle.base.specs.declared.step.Stage.{Stage}
use Rattle.base.specs.declared.step.Stage.TheVariants.{Chosen}
use Rattle.base.specs.declared.step.Reply.TheVariants.{Idle, Ticked, Covered}
use Rattle.base.specs.Batches.{Batch}
use Rattle.machine.specs.Machine.{State, Hand, Stepped, refused, answered, memory_refused, device_failed, ticked, ticked_on, state_ticked, state_ticked_on, next_stage, is_idle}

record IsKept (q : State) (batch : Batch) (q' : State) : Type 0 where
  history : q'.history ≡ q.history ++ batch.commits
  from : batch.from ≡ q.ruling.gate
  stamp : batch.stamp ≡ q'.ruling.gate
  persisted : batch.persisted ≡ q'.ruling.persisted
  longs : batch.longs ≡ q'.ruling.longs

kept-on : (q : State) (batch : Batch) (hand : Hand) (o : Option Stage) → Covered batch ≡ ticked_on q hand o → IsKept q batch (state_ticked_on q hand o)
kept-on q batch hand a e = grind (arith)

not_idle : (batch : Batch) (b : Bool) → Covered batch ≡ cond b Idle (Ticked Chosen) → ⊥
not_idle batch a e = grind (arith)

kept-ticked : (q : State) (batch : Batch) (o : Option Hand) → Covered batch ≡ ticked q o → IsKept q batch (state_ticked q o)
kept-ticked q batch None e = absurd (not_idle batch (is_idle q) e)
kept-ticked q batch (Some hand) e = kept-on q batch hand (next_stage q hand) e

kept : (q : State) (batch : Batch) (q' : State) → Stepped q CommitTick (Covered batch) q' → IsKept q batch q'
kept q batch q' (refused fault e r s) = cc
kept q batch q' (answered e a s) = subst (λ (p : State). IsKept q batch p) (sym s) (kept-ticked q batch q.hand a)
kept q batch q' (memory_refused e m r s) = cc
kept q batch q' (device_failed e m r s) = cc

pub covered-kept : (q : State) (batch : Batch) (q' : State) → Stepped q CommitTick (Covered batch) q'
    → (q'.history ≡ q.history ++ batch.commits) × (batch.from ≡ q.ruling.gate) × (batch.stamp ≡ q'.ruling.gate) × (batch.persisted ≡ q'.ruling.persisted) × (batch.longs ≡ q'.ruling.longs)
covered-kept q batch q' s = let k = kept q batch q' s in (k.history, k.from, k.stamp, k.persisted, k.longs)
