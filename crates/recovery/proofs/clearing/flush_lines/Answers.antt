use Rattle.std.proofs.Common.{◌+◌, arith}
use Rattle.base.proofs.Results.{on_err}
use Rattle.base.specs.Actors.{committer}
use Rattle.pmem.specs.Trace.{flush_op}
use Rattle.pmem.proofs.Lists.{loop-more, loop-stops}
use Rattle.pmem.proofs.Traces.{words-run}
use Rattle.recovery.proofs.clearing.flush_lines.Goals as goal

pub flush-requires : goal.flush-requires
flush-requires g c = omega (arith, c.requires.within, words-run c.loop-k.invariant, c.loop-k-test.true)

pub loop-k-preserved : goal.loop-k-preserved
loop-k-preserved g c = loop-more (λ k. flush_op committer (c.args.first + k)) c.loop-k.k (g.met.D.Pmem.orderly c.flush.new.self) c.in_ok-flush.ensures.ok c.loop-k.invariant

pub returns-in_err-flush-clause-stopped : goal.returns-in_err-flush-clause-stopped
returns-in_err-flush-clause-stopped g c =
    on_err c.from_residual.result (loop-stops (λ k. flush_op committer (c.args.first + k)) c.loop-k.k c.args.count c.loop-k-test.true (g.met.D.Pmem.orderly c.flush.new.self) c.in_err-flush.ensures.err c.loop-k.invariant)
