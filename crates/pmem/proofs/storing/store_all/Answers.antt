use Rattle.std.proofs.Common.{◌+◌, get_or, arith}
use Rattle.pmem.specs.Trace.{store_op}
use Rattle.pmem.proofs.Lists.{loop-more, loop-stops}
use Rattle.pmem.proofs.Traces.{words-run, words-stopped}
use Rattle.pmem.proofs.storing.store_all.Goals as goal

pub loop-k-preserved : goal.loop-k-preserved
loop-k-preserved g c = loop-more (λ k. store_op (c.args.first + k) (get_or c.args.values.now k 0)) c.loop-k.k (g.met.D.Pmem.orderly c.store.new.self) c.in-Ok.ensures.ok c.loop-k.invariant

pub returns-in-Err-clause-stopped : goal.returns-in-Err-clause-stopped
returns-in-Err-clause-stopped g c =
    loop-stops (λ k. store_op (c.args.first + k) (get_or c.args.values.now k 0)) c.loop-k.k _ c.loop-k-test.true (g.met.D.Pmem.orderly c.store.new.self) c.in-Err.ensures.err c.loop-k.invariant

pub returns-in-Err-clause-size : goal.returns-in-Err-clause-size
returns-in-Err-clause-size g c = words-stopped _ (returns-in-Err-clause-stopped g c)

pub returns-clause-size : goal.returns-clause-size
returns-clause-size g c = words-run c.loop-k.invariant

pub store-requires : goal.store-requires
store-requires g c = omega (arith, c.requires.device, words-run c.loop-k.invariant, c.loop-k-test.true)
