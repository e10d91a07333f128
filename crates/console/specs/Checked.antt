-- What a check prints.
use Rattle.std.specs.Prelude.{◌≡◌, ℕ, List, [], ◌∷◌, ◌++◌, length, true, Option}
use Rattle.std.specs.Io.KnownBytes.{Appends}
use Rattle.base.specs.declared.key.Key.{Key}
use Rattle.base.specs.Records.{Record}
use Rattle.base.specs.Images.{Image, IsSound, ruling}
use Rattle.image_check.specs.Checked.{ListsTables}
use Rattle.command_line.specs.ImageFile.{HoldsWords, is_image_length}
use Rattle.command_line.specs.Numbers.{Text}
use Rattle.command_line.specs.Texts.{sound_line, entries_text, end_line}

-- the lines of a sound image with this ruling record and these rows
abbrev pub checked_text : Record → List (Key × List ℕ) → Text
checked_text r rows =
    ((sound_line r.gate r.persisted r.dirty r.gaps r.longs ++ 10 ∷ []) ++ entries_text rows) ++ (end_line (length rows) ++ 10 ∷ [])

-- The file has the words of a sound image. What is printed is its ruling record, the rows of its tables by rising key, and how many they
-- are.
-- Excluded: a check of a damaged file that ends well.
pub record PrintsChecked (file : List ℕ) (old new : Option Text) : Type 0 where
  pub size : is_image_length (length file) ≡ true
  pub image : Image
  pub holds : HoldsWords file image
  pub sound : IsSound image
  pub rows : List (Key × List ℕ)
  pub lists : ListsTables image rows
  pub prints : Appends old new (checked_text (ruling image) rows)
