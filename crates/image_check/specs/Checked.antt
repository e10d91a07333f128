-- What is reported of a sound image.
use Rattle.std.specs.Prelude.{◌≡◌, ◌↔◌, ℕ, List, Option, Some, None}
use Rattle.std.specs.Map.{update_all}
use Rattle.base.specs.declared.key.Key.{Key}
use Rattle.base.specs.declared.gap.Gap.{Gap}
use Rattle.base.specs.Commits.{Tables, Lists}
use Rattle.base.specs.Images.{Image, IsSound, TablesOf, ruling}
use Rattle.base.specs.Keys.{key_eq}

-- the rows are those of the image's tables, each once, by rising key
pub record ListsTables (image : Image) (rows : List (Key × List ℕ)) : Type 0 where
  pub tables : Tables
  pub lists : Lists rows tables
  pub of_image : (key : Key) (row : List ℕ) → TablesOf image key row ↔ (tables key ≡ Some row)

-- The image is sound; these are the numbers, the gaps and the long commits of its ruling record, and these its rows.
-- Excluded: a row that is left out; the numbers of another record.
pub record Reports (image : Image) (gate persisted dirty : ℕ) (gaps : List Gap) (longs : List ℕ) (rows : List (Key × List ℕ)) : Type 0 where
  pub sound : IsSound image
  pub gate_is : gate ≡ (ruling image).gate
  pub persisted_is : persisted ≡ (ruling image).persisted
  pub dirty_is : dirty ≡ (ruling image).dirty
  pub gaps_are : gaps ≡ (ruling image).gaps
  pub longs_are : longs ≡ (ruling image).longs
  pub lists : ListsTables image rows

-- the last row that a list has at a key
abbrev pub last_at : List (Key × List ℕ) → Key → Option (List ℕ)
last_at rows = update_all key_eq (λ key. None) rows
