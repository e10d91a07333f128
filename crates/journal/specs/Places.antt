-- What a writing leaves of the words in place, and whether a file might be taken for an image alone.
use Rattle.std.specs.Prelude.{◌≡◌, ◌≢◌, ◌⊎◌, ℕ, ◌+◌, ◌<◌, List, length, slice_index}

-- in place nothing is found but what might be found there before, and the words of this image
abbrev pub PlacesOnly : (ℕ → ℕ → Type 0) → (ℕ → ℕ → Type 0) → List ℕ → Type 0
PlacesOnly before now image = (word x : ℕ) → word < length image → now word x → before word x ⊎ (x ≡ slice_index image word)

-- the word of an image that says how many words it has
abbrev pub size_word : ℕ
size_word = 5

-- the image has such a word, and it isn't the number of words of the whole file, with a journal of this room and a tail
pub record IsPart (room : ℕ) (image : List ℕ) : Type 0 where
  pub has : size_word < length image
  pub less : slice_index image size_word ≢ length image + room + 8

-- in place that number isn't found at this word, so the whole file is not an image alone
abbrev pub HoldsPart : (ℕ → ℕ → Type 0) → ℕ → ℕ → Type 0
HoldsPart may_hold words room = (x : ℕ) → may_hold size_word x → x ≢ words + room + 8

-- and so, if it was so before
abbrev pub PartAsBefore : (ℕ → ℕ → Type 0) → (ℕ → ℕ → Type 0) → ℕ → ℕ → Type 0
PartAsBefore before now words room = HoldsPart before words room → HoldsPart now words room
