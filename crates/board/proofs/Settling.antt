-- What is stored still stands for the published list once the first batch is laid into the rows, or some of it is.
use Rattle.std.proofs.Common.{◌≡◌, ℕ, ◌≤◌, false, List, [], ◌∷◌, Some, slice_get, arith}
use Rattle.base.specs.declared.key.Key.{Key}
use Rattle.base.specs.Keys.{lookup_key}
use Rattle.base.specs.Batches.{Batch}
use Rattle.base.specs.Published.{Published}
use Rattle.board.specs.declared.coverage.Coverage.{Coverage}
use Rattle.board.specs.Cells.{is_written}
use Rattle.board.specs.Stored.{Stands}
use Rattle.board.proofs.Puts.{laid_alike}

-- rows that differ only at keys of the first batch
pub stands_alike : (coverage : Coverage) (floor : ℕ) (rows other : List (Key × List ℕ)) (batches : List Batch) (batch : Batch) (list : Published) → slice_get batches 0 ≡ Some batch → batch.stamp ≤ floor
    → ((k : Key) → is_written k batch.commits ≡ false → lookup_key other k ≡ lookup_key rows k)
    → Stands coverage floor rows batches list → Stands coverage floor other batches list
stands_alike coverage floor rows other [] batch list at low same h = absurd (cc at)
stands_alike coverage floor rows other (b ∷ batches) batch list at low same h = grind (arith, laid_alike)
