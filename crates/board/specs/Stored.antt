-- What is stored stands for a published list from its floor on: batches that are not above it are laid into the rows.
use Rattle.std.specs.Prelude.{ℕ, ◌≤◌, ◌≡◌, List}
use Rattle.base.specs.declared.key.Key.{Key}
use Rattle.base.specs.Keys.{lookup_key}
use Rattle.base.specs.Batches.{Batch}
use Rattle.base.specs.Published.{Published, last_from, last_stamp, row_at}
use Rattle.board.specs.declared.coverage.Coverage.{Coverage}
use Rattle.board.specs.Lists.{persisted_from, longs_from, last_persisted, last_longs}
use Rattle.board.specs.Cells.{after_batches}

-- the rows, the batches and the floor that are stored are those of the list, from its floor on
pub record Stands (coverage : Coverage) (floor : ℕ) (rows : List (Key × List ℕ)) (batches : List Batch) (list : Published) : Type 0 where
  pub floor_is : floor ≡ list.floor
  pub last : last_from coverage.stamp batches ≡ last_stamp list
  pub persisted_is : persisted_from coverage.persisted batches ≡ last_persisted list
  pub longs_are : longs_from coverage.longs batches ≡ last_longs list
  pub rows_are : (at : ℕ) (key : Key) → list.floor ≤ at → after_batches key at (lookup_key rows key) batches ≡ row_at list at key
