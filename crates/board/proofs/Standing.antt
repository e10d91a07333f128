-- What is stored still stands for the published list after a change.
use Rattle.std.proofs.Common.{◌≡◌, ℕ, ◌+◌, max, List, [], ◌∷◌, ◌++◌, arith}
use Rattle.std.proofs.lemmas.List.Sums.{fold_push}
use Rattle.base.specs.declared.key.Key.{Key}
use Rattle.base.specs.Batches.{Batch}
use Rattle.base.specs.Published.{Published, last_from}
use Rattle.board.specs.declared.change.Change.TheVariants.{Add, Raise}
use Rattle.board.specs.declared.coverage.Coverage.{Coverage}
use Rattle.board.specs.Changes.{changed}
use Rattle.board.specs.Lists.{IsPublished, last_coverage}
use Rattle.board.specs.Stored.{Stands}
use Rattle.board.proofs.Staying.{follow_rest}
use Rattle.board.proofs.Cells.{laid-batches}
use Rattle.board.proofs.Ends.{covered_at, last_from-push, persisted_from-push, longs_from-push}

pub stands_add : (coverage : Coverage) (floor : ℕ) (rows : List (Key × List ℕ)) (batches : List Batch) (list : Published) (batch : Batch) → Stands coverage floor rows batches list
    → Stands coverage floor rows (batches ++ batch ∷ []) (changed list (Add batch))
stands_add coverage floor rows batches list batch h = grind (arith, last_from-push, persisted_from-push, longs_from-push, fold_push, laid-batches)

pub stands_raise : (coverage : Coverage) (floor : ℕ) (rows : List (Key × List ℕ)) (batches : List Batch) (list : Published) (to : ℕ) → Stands coverage floor rows batches list
    → Stands coverage (max floor to) rows batches (changed list (Raise to))
stands_raise coverage floor rows batches list to h = grind (arith)

-- a batch that may come next begins at the end of what is stored
pub comes_next : (coverage : Coverage) (floor : ℕ) (rows : List (Key × List ℕ)) (batches : List Batch) (list : Published) (batch : Batch) → Stands coverage floor rows batches list
    → IsPublished (changed list (Add batch)) → (batch.from ≡ last_from coverage.stamp batches) × (batch.stamp ≡ last_from coverage.stamp batches + 1)
comes_next coverage floor rows batches list batch h next = grind (arith, follow_rest)

-- what is stored covers what the list does
pub stored_coverage : (coverage : Coverage) (floor : ℕ) (rows : List (Key × List ℕ)) (batches : List Batch) (list : Published) → Stands coverage floor rows batches list → covered_at coverage batches ≡ last_coverage list
stored_coverage coverage floor rows batches list h = λ i. record { stamp = h.last i; persisted = h.persisted_is i; longs = h.longs_are i }
