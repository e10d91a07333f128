use Rattle.std.proofs.Common.{ℕ, subst}
use Rattle.base.proofs.Results.{on_err}
use Rattle.pmem.specs.Trace.{StopsWithin}
use Rattle.slot_alloc.proofs.Clearing.{operations, stops-flush, stops-fence}
use Rattle.slot_alloc.proofs.free.clear.Goals as goal

pub returns-in_err-flush-clause-err : goal.returns-in_err-flush-clause-err
returns-in_err-flush-clause-err g c =
    let state = g.D.Pmem.state in
    let orderly = g.met.D.Pmem.orderly in
    on_err c.from_residual-in_err-flush.result
    (subst (λ (word : ℕ). StopsWithin (operations word c.args.actor.number) (state c.args.device.now) (state c.flush.new.self)) c.slot_start-word.ensures.value
    (stops-flush c.slot_start-word.result c.args.actor.number (state c.args.device.now) (orderly c.args.device.now) (state c.store.new.self) (state c.flush.new.self) (orderly c.store.new.self) (orderly c.flush.new.self) c.in_ok-store.ensures.ok c.in_err-flush.ensures.err))

pub returns-in_err-fence-clause-err : goal.returns-in_err-fence-clause-err
returns-in_err-fence-clause-err g c =
    let state = g.D.Pmem.state in
    let orderly = g.met.D.Pmem.orderly in
    on_err c.from_residual-in_err-fence.result
    (subst (λ (word : ℕ). StopsWithin (operations word c.args.actor.number) (state c.args.device.now) (state c.fence.new.self)) c.slot_start-word.ensures.value
    (stops-fence c.slot_start-word.result c.args.actor.number (state c.args.device.now) (orderly c.args.device.now) (state c.store.new.self) (state c.flush.new.self) (state c.fence.new.self) (orderly c.store.new.self) (orderly c.flush.new.self) (orderly c.fence.new.self) c.in_ok-store.ensures.ok c.in_ok-flush.ensures.ok c.in_err-fence.ensures.err))
