-- The words of a tail by their places, and what is found of the last eight words of a file.
use Rattle.std.specs.Prelude.{◌≡◌, ◌≢◌, ◌⊎◌, ℕ, ◌+◌, ◌<◌, ◌≤◌, true, List, ◌++◌, length, replicate, slice_index}
use Rattle.journal.specs.Files.{magic, tail_of, HasTail, IsFile}

-- x is a word of a tail that names both, at this place
pub record IsTailWord (words room place x : ℕ) : Type 0 where
  pub first : place ≡ 0 → x ≢ magic → x ≡ 0
  pub words_named : place ≡ 1 → x ≡ words
  pub room_named : place ≡ 2 → x ≡ room
  pub pass : place ≡ 3 → x < 2
  pub others : 4 ≤ place → x ≡ 0

-- Of the tail nothing is found but words of one that names both, so the next opening finds the same two.
-- Excluded: a tail that is turned off or on under other names, after which no opening finds the image.
abbrev pub NamesBoth : (ℕ → ℕ → Type 0) → ℕ → ℕ → Type 0
NamesBoth may_hold words room = (place x : ℕ) → place < 8 → may_hold (words + room + place) x → IsTailWord words room place x

-- and so, if it was so before
abbrev pub NamesAsBefore : (ℕ → ℕ → Type 0) → (ℕ → ℕ → Type 0) → ℕ → ℕ → Type 0
NamesAsBefore before now words room = NamesBoth before words room → NamesBoth now words room

-- and so, if the file that was read has such a tail
abbrev pub NamesAsRead : (ℕ → ℕ → Type 0) → ℕ → ℕ → List ℕ → Type 0
NamesAsRead may_hold words room file = IsFile words room (length file) → HasTail words room file → NamesBoth may_hold words room

-- ---- the first tail of a file, which doesn't count yet

-- x is 0, or the word that is written first at this place behind the image: a journal of zeros, and a tail that doesn't count
abbrev pub IsFirstWord : ℕ → ℕ → ℕ → ℕ → Type 0
IsFirstWord words room place x = (x ≡ 0) ⊎ (x ≡ slice_index (replicate room 0 ++ tail_of 0 words room true) place)

-- behind the image the file has only such words: it is new, or was being made longer
abbrev pub BeginsTail : ℕ → ℕ → List ℕ → Type 0
BeginsTail words room file = (place : ℕ) → place < room + 8 → IsFirstWord words room place (slice_index file (words + place))

-- and nothing else is found there
abbrev pub HoldsFirst : (ℕ → ℕ → Type 0) → ℕ → ℕ → Type 0
HoldsFirst may_hold words room = (place x : ℕ) → place < room + 8 → may_hold (words + place) x → IsFirstWord words room place x

-- so it is, or the tail names both, if the file that was read has only such words there
abbrev pub BeginsAsRead : (ℕ → ℕ → Type 0) → ℕ → ℕ → List ℕ → Type 0
BeginsAsRead may_hold words room file = IsFile words room (length file) → BeginsTail words room file → HoldsFirst may_hold words room ⊎ NamesBoth may_hold words room
