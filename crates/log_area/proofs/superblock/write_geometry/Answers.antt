use Rattle.std.proofs.Common.{◌≡◌, ◌+◌, List, [], ◌∷◌, ◌++◌, drop, take, ap, length, get_or, ℕ, subst}
use Rattle.base.proofs.Results.{on_err}
use Rattle.base.specs.Actors.{committer}
use Rattle.base.specs.Layout.{Layout}
use Rattle.base.specs.Fresh.{superblock_words}
use Rattle.pmem.specs.Persisting.{store_operations}
use Rattle.pmem.specs.Trace.{Operation, flush_op, fence_op, Runs, StopsWithin}
use Rattle.pmem.proofs.Traces.{runs-more, stops-one, stops-first, stops-then}
use Rattle.log_area.proofs.superblock.write_geometry.Goals as goal

-- seven words are stored
abbrev stores : Layout → List Operation
stores layout = store_operations 1 (λ k. get_or (superblock_words layout) (k + 1) 0) 7

stored : (layout : Layout) (words : List ℕ) → words ≡ superblock_words layout → store_operations 1 (λ k. get_or (take 7 (drop 1 words)) k 0) (length (take 7 (drop 1 words))) ≡ stores layout
stored layout words is = ap (λ (l : List ℕ). store_operations 1 (λ k. get_or (take 7 (drop 1 l)) k 0) (length (take 7 (drop 1 l)))) is

pub returns-in_err-store_all-clause-stopped : goal.returns-in_err-store_all-clause-stopped
returns-in_err-store_all-clause-stopped g c =
    let state = g.D.Pmem.state in
    on_err c.from_residual.result (stops-first {xs = stores c.args.geometry} (flush_op committer 0 ∷ fence_op committer ∷ [])
    (subst (λ (ops : List Operation). StopsWithin ops (state c.args.device.now) (state c.store_all.new.device)) (stored c.args.geometry c.superblock.result c.superblock.ensures) c.in_err-store_all.ensures.stopped))

pub returns-in_err-flush-clause-stopped : goal.returns-in_err-flush-clause-stopped
returns-in_err-flush-clause-stopped g c =
    let state = g.D.Pmem.state in
    let orderly = g.met.D.Pmem.orderly in
    let one = subst (λ (ops : List Operation). Runs ops (state c.args.device.now) (state c.store_all.new.device)) (stored c.args.geometry c.superblock.result c.superblock.ensures) c.in_ok-store_all.ensures.run in
    on_err c.from_residual-in_err-flush.result (stops-then one (stops-first (fence_op committer ∷ [])
    (stops-one (flush_op committer 0) (state c.store_all.new.device) (state c.flush.new.self) (orderly c.store_all.new.device) (orderly c.flush.new.self) c.in_err-flush.ensures.err)))

pub returns-in_err-fence-clause-stopped : goal.returns-in_err-fence-clause-stopped
returns-in_err-fence-clause-stopped g c =
    let state = g.D.Pmem.state in
    let orderly = g.met.D.Pmem.orderly in
    let one = subst (λ (ops : List Operation). Runs ops (state c.args.device.now) (state c.store_all.new.device)) (stored c.args.geometry c.superblock.result c.superblock.ensures) c.in_ok-store_all.ensures.run in
    let two = runs-more (stores c.args.geometry) (flush_op committer 0) (state c.args.device.now) (state c.store_all.new.device) (state c.flush.new.self) (orderly c.flush.new.self) c.in_ok-flush.ensures.ok one in
    on_err c.from_residual-in_err-fence.result (stops-then two (stops-one (fence_op committer) (state c.flush.new.self) (state c.fence.new.self) (orderly c.flush.new.self) (orderly c.fence.new.self) c.in_err-fence.ensures.err))

pub returns-clause-run : goal.returns-clause-run
returns-clause-run g c =
    let state = g.D.Pmem.state in
    let orderly = g.met.D.Pmem.orderly in
    let one = subst (λ (ops : List Operation). Runs ops (state c.args.device.now) (state c.store_all.new.device)) (stored c.args.geometry c.superblock.result c.superblock.ensures) c.in_ok-store_all.ensures.run in
    let two = runs-more (stores c.args.geometry) (flush_op committer 0) (state c.args.device.now) (state c.store_all.new.device) (state c.flush.new.self) (orderly c.flush.new.self) c.in_ok-flush.ensures.ok one in
    runs-more (stores c.args.geometry ++ flush_op committer 0 ∷ []) (fence_op committer) (state c.args.device.now) (state c.flush.new.self) (state c.fence.new.self) (orderly c.fence.new.self) c.in_ok-fence.ensures.ok two
