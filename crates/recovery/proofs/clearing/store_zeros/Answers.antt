use Rattle.std.proofs.Common.{◌+◌, arith}
use Rattle.base.proofs.Results.{on_err}
use Rattle.pmem.specs.Trace.{store_op}
use Rattle.pmem.proofs.Lists.{loop-more, loop-stops}
use Rattle.pmem.proofs.Traces.{words-run}
use Rattle.recovery.proofs.clearing.store_zeros.Goals as goal

pub store-requires : goal.store-requires
store-requires g c = omega (arith, c.requires.within, words-run c.loop-k.invariant, c.loop-k-test.true)

pub loop-k-preserved : goal.loop-k-preserved
loop-k-preserved g c = loop-more (λ k. store_op (c.args.first + k) 0) c.loop-k.k (g.met.D.Pmem.orderly c.store.new.self) c.in_ok-store.ensures.ok c.loop-k.invariant

pub returns-in_err-store-clause-stopped : goal.returns-in_err-store-clause-stopped
returns-in_err-store-clause-stopped g c =
    on_err c.from_residual.result (loop-stops (λ k. store_op (c.args.first + k) 0) c.loop-k.k c.args.count c.loop-k-test.true (g.met.D.Pmem.orderly c.store.new.self) c.in_err-store.ensures.err c.loop-k.invariant)
