use Rattle.std.proofs.Common.{ℕ, ◌-◌, ◌/◌, List, [], ◌∷◌, ◌++◌, subst, arith}
use Rattle.base.proofs.Results.{on_err}
use Rattle.base.specs.Actors.{committer}
use Rattle.pmem.specs.Persisting.{flush_operations, store_operations}
use Rattle.pmem.specs.Trace.{Operation, fence_op, Runs, StopsWithin}
use Rattle.pmem.proofs.Traces.{runs-more, runs-then, stops-first, stops-one, stops-then, words-run}
use Rattle.recovery.specs.Fresh.{clear_operations}
use Rattle.recovery.proofs.clearing.clear.Goals as goal

abbrev stores : ℕ → List Operation
stores words = store_operations 8 (λ k. 0) (words - 8)

abbrev flushes : ℕ → List Operation
flushes words = flush_operations committer 1 (words / 8 - 1)

pub flush_lines-requires-clause-within : goal.flush_lines-requires-clause-within
flush_lines-requires-clause-within g c = omega (arith, c.requires, c.words-words.ensures, words-run c.in_ok-store_zeros.ensures.run)

pub returns-in_err-flush_lines-clause-stopped : goal.returns-in_err-flush_lines-clause-stopped
returns-in_err-flush_lines-clause-stopped g c =
    let words : ℕ = c.words-words.result in
    on_err c.from_residual-in_err-flush_lines.result (subst (λ (n : ℕ). StopsWithin (clear_operations n) (g.D.Pmem.state c.args.device.now) (g.D.Pmem.state c.flush_lines.new.device)) c.words-words.ensures
    (stops-first {xs = stores words ++ flushes words} (fence_op committer ∷ []) (stops-then c.in_ok-store_zeros.ensures.run c.in_err-flush_lines.ensures.stopped)))

pub returns-in_err-fence-clause-stopped : goal.returns-in_err-fence-clause-stopped
returns-in_err-fence-clause-stopped g c =
    let state = g.D.Pmem.state in
    let orderly = g.met.D.Pmem.orderly in
    on_err c.from_residual-in_err-fence.result (subst (λ (n : ℕ). StopsWithin (clear_operations n) (state c.args.device.now) (state c.fence.new.self)) c.words-words.ensures
    (stops-then (runs-then c.in_ok-store_zeros.ensures.run c.in_ok-flush_lines.ensures.run) (stops-one (fence_op committer) (state c.flush_lines.new.device) (state c.fence.new.self) (orderly c.flush_lines.new.device) (orderly c.fence.new.self) c.in_err-fence.ensures.err)))

pub returns-clause-run : goal.returns-clause-run
returns-clause-run g c =
    let state = g.D.Pmem.state in
    let words : ℕ = c.words-words.result in
    subst (λ (n : ℕ). Runs (clear_operations n) (state c.args.device.now) (state c.fence.new.self)) c.words-words.ensures
    (runs-more (stores words ++ flushes words) (fence_op committer) (state c.args.device.now) (state c.flush_lines.new.device) (state c.fence.new.self) (g.met.D.Pmem.orderly c.fence.new.self) c.in_ok-fence.ensures.ok (runs-then c.in_ok-store_zeros.ensures.run c.in_ok-flush_lines.ensures.run))
