-- The image that a file stands for whose image may be followed by a journal.
use Rattle.std.specs.Prelude.{◌≡◌, ◌⊎◌, ℕ, ◌≤◌, List, length, take, IsTrue}
use Rattle.base.specs.Images.{layout_of}
use Rattle.base.specs.Layout.{is_in_limits, total_words}
use Rattle.command_line.specs.ImageFile.{HoldsWords, IsFileOf}
use Rattle.journal.specs.Files.{HasTail, IsFile, Opens}
use Rattle.pmem_file.specs.Shapes.{IsGrown}

-- a journal follows an image, or was being made there
abbrev pub IsJournaled : List ℕ → Type 0
IsJournaled words = ((size room : ℕ) × IsFile size room (length words) × HasTail size room words) ⊎ ((size : ℕ) × IsGrown size words)

-- The words stand for this image: with the entries of the journal whose tail names it, or as it is if a journal was being made.
-- Excluded: the image as it is in place, without what was kept since.
abbrev pub StandsFor : List ℕ → List ℕ → Type 0
StandsFor words image =
    ((size room : ℕ) × IsFile size room (length words) × HasTail size room words × Opens size room words image)
    ⊎ ((size : ℕ) × IsGrown size words × (image ≡ take size words))

-- the superblock in place names an image of all the words
pub record NamesAll (words : List ℕ) : Type 0 where
  pub limits : IsTrue (is_in_limits (layout_of words))
  pub size : total_words (layout_of words) ≡ length words

-- a file with such words that is no longer than the longest, and no image alone
pub record HasJournal (file : List ℕ) : Type 0 where
  pub words : List ℕ
  pub holds : HoldsWords file words
  pub fits : length file ≤ 18253646208
  pub some : IsJournaled words
  pub not_alone : ¬ NamesAll words

-- the bytes are those of an image that the file's words stand for
pub record IsOfImage (file bytes : List ℕ) : Type 0 where
  pub words : List ℕ
  pub image : List ℕ
  pub holds : HoldsWords file words
  pub stands : StandsFor words image
  pub bytes_are : IsFileOf image bytes
