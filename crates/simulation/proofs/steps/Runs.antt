-- Runs of operations: the images that they leave, and how many they are.
use Rattle.std.proofs.Common.{◌≡◌, ℕ, true, List, [], ◌∷◌, refl, sym, subst, arith}
use Rattle.std.proofs.lemmas.List.Elements.{All-nil, All-cons}
use Rattle.pmem.specs.Device.{Device, IsOrderly, MayLeave}
use Rattle.pmem.specs.Words.{LeavesOnly}
use Rattle.pmem.specs.Trace.{Operation, store_op, flush_op, fence_op, failure, applied, after, Along, Runs}
use Rattle.pmem.proofs.Images.{leaves_refl, leaves_trans}
use Rattle.pmem.proofs.Lists.{StoresOnly, StoreOnly, leaves-applied, makes-run, all-count, few-stopped, one_failure-stopped}
use Rattle.pmem.proofs.Traces.{along-first}
use Rattle.simulation.specs.steps.Moves.{all_succeed}
use Rattle.simulation.specs.steps.Laws.{RunsCount, StopsCount}

-- ---- images

leaves-after : (P : List ℕ → Type 0) (ops : List Operation) (device : Device) → Along IsOrderly ops device → Along (λ d. (image : List ℕ) → MayLeave d image → P image) ops device → LeavesOnly device (after ops device) P
leaves-after P [] device orderly each = leaves_refl device P orderly each
leaves-after P (op ∷ ops) device orderly each =
    leaves_trans (leaves-applied P op orderly.0 (along-first IsOrderly ops (applied op device) orderly.1) refl each.0 (along-first (λ d. (image : List ℕ) → MayLeave d image → P image) ops (applied op device) each.1))
    (leaves-after P ops (applied op device) orderly.1 each.1)

-- what holds of each image that a crash may leave before the operations, between them and after them, holds of each that a crash meanwhile might have left
pub prefixes-leave : (P : List ℕ → Type 0) (ops : List Operation) (old new : Device) → Runs ops old new → Along (λ d. (image : List ℕ) → MayLeave d image → P image) ops old → LeavesOnly old new P
prefixes-leave P ops old new run each = subst (λ (d : Device). LeavesOnly old d P) (sym run.made) (leaves-after P ops old run.orderly each)

-- ---- counts

abbrev Anything : ℕ → ℕ → Type 0
Anything word x = Unit {0}

all-made : (ops : List Operation) → all_succeed ops ≡ true → StoreOnly Anything ops
all-made [] succeed = All-nil (StoresOnly Anything)
all-made (store_op word value ∷ ops) succeed = All-cons (StoresOnly Anything) (store_op word value) ops tt (all-made ops succeed)
all-made (flush_op actor line ∷ ops) succeed = All-cons (StoresOnly Anything) (flush_op actor line) ops tt (all-made ops succeed)
all-made (fence_op actor ∷ ops) succeed = All-cons (StoresOnly Anything) (fence_op actor) ops tt (all-made ops succeed)
all-made (failure ∷ ops) succeed = absurd (cc succeed)

pub runs-count : RunsCount
runs-count ops old new succeed run =
    let made = makes-run Anything (all-made ops succeed) run in
    (omega (arith, made.stores_made, made.flushes_made, made.fences_made, all-count Anything ops (all-made ops succeed)), omega (arith, made.failures_made))

pub stops-count : StopsCount
stops-count ops old new succeed stop =
    let all = all-made ops succeed in
    (omega (arith, few-stopped Anything all stop, all-count Anything ops all), one_failure-stopped Anything all stop)
