-- What the next life of a file may begin with.
use Rattle.std.specs.Prelude.{ℕ, ◌<◌, List}
use Rattle.journal.specs.Files.{IsStoodFor}
use Rattle.journal.specs.Places.{HoldsPart, size_word}
use Rattle.journal.specs.ReadBack.{JournalDecides}
use Rattle.journal.specs.Tails.{NamesBoth}

-- What images leave at each instant, and so what the next life of their file may begin with: whatever is found of the file, its tail
-- names the image's words and the journal's room, it isn't taken for an image alone, and its journal decides which image it stands for.
-- Excluded: opening that turns half a journal into an image.
pub record IsLeft (may_hold : ℕ → ℕ → Type 0) (words room : ℕ) : Type 0 where
  pub some : size_word < words
  pub names : NamesBoth may_hold words room
  pub part : HoldsPart may_hold words room
  pub decides : JournalDecides may_hold words room

-- nothing is found now but what might be found before
abbrev pub IsNoMore : (ℕ → ℕ → Type 0) → (ℕ → ℕ → Type 0) → Type 0
IsNoMore before now = (word x : ℕ) → now word x → before word x

-- No image is read of a file that may be found now but one that might be read before.
-- Excluded: a life after which the next one finds another image than a crash might have left.
abbrev pub StandsForNoOther : (ℕ → ℕ → Type 0) → (ℕ → ℕ → Type 0) → ℕ → ℕ → Type 0
StandsForNoOther before now words room = (image : List ℕ) → IsStoodFor now words room image → IsStoodFor before words room image
