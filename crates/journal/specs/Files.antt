-- A file: an image in place, a journal behind it, and a tail of one line.
use Rattle.std.specs.Prelude.{◌≡◌, ◌⊎◌, ℕ, ◌+◌, ◌-◌, ◌%◌, ◌<◌, ◌≤◌, ◌^◌, Bool, true, false, ◌==◌, if◌then◌else◌, List, [], ◌∷◌, length, take, drop, slice_index}
use Rattle.std.specs.declared.io.ErrorKind.{ErrorKind}
use Rattle.std.specs.declared.io.ErrorKind.TheVariants.{InvalidInput, InvalidData, OutOfMemory}
use Rattle.journal.specs.declared.line.Line.{Line}
use Rattle.journal.specs.Kept.{IsFound}
use Rattle.journal.specs.InPlace.{put_over}
use Rattle.journal.specs.Opened.{lines_found}

-- the tail's first word while the journal counts; its letters are WBL-JRN1
abbrev pub magic : ℕ
magic = 6287671787166780977

-- so a journal of zeros has nothing of its pass
abbrev pub pass_word : Bool → ℕ
pass_word true = 0
pass_word false = 1

-- the pass that a word of the tail names
abbrev pub pass_of : ℕ → Bool
pass_of word = word == 0

-- a tail: its first word, the words of the image, the room of the journal, and the pass
abbrev pub tail_of : ℕ → ℕ → ℕ → Bool → List ℕ
tail_of first words room pass = first ∷ words ∷ room ∷ pass_word pass ∷ 0 ∷ 0 ∷ 0 ∷ 0 ∷ []

-- the journal of a file
abbrev pub journal_in : ℕ → ℕ → List ℕ → List ℕ
journal_in words room file = take room (drop words file)

-- does the journal count?
abbrev pub is_on : ℕ → ℕ → List ℕ → Bool
is_on words room file = slice_index file (words + room) == magic

-- the lines that are over the image in place
abbrev pub lines_in : ℕ → ℕ → List ℕ → List Line
lines_in words room file = if is_on words room file then lines_found (pass_of (slice_index file (words + room + 3))) (journal_in words room file) else []

-- The file stands for this image: if the journal counts, for the image in place with the lines of the journal's entries put over it, and
-- otherwise for the image in place alone.
pub record Opens (words room : ℕ) (file image : List ℕ) : Type 0 where
  pub size : length image ≡ words
  pub each : (word : ℕ) → word < words → slice_index image word ≡ put_over (lines_in words room file) word (slice_index file word)

-- whatever is found stands for this image
abbrev pub FoundOpens : (ℕ → ℕ → Type 0) → ℕ → ℕ → List ℕ → Type 0
FoundOpens may_hold words room durable = (file image : List ℕ) → IsFound may_hold (words + room + 8) file → Opens words room file image → ∥ image ≡ durable ∥₁

-- whatever is found stands for one of two images
abbrev pub FoundEither : (ℕ → ℕ → Type 0) → ℕ → ℕ → List ℕ → List ℕ → Type 0
FoundEither may_hold words room durable next = (file image : List ℕ) → IsFound may_hold (words + room + 8) file → Opens words room file image → (image ≡ durable) ⊎ (image ≡ next)

-- some file that may be found stands for this image
pub record IsStoodFor (may_hold : ℕ → ℕ → Type 0) (words room : ℕ) (image : List ℕ) : Type 0 where
  pub file : List ℕ
  pub found : IsFound may_hold (words + room + 8) file
  pub opens : Opens words room file image

-- The image that was kept last, or one that a file stands for which may be found.
-- Excluded: an entry that isn't written, or is put over the image only in part.
abbrev pub MayBe : (ℕ → ℕ → Type 0) → ℕ → List ℕ → List ℕ → Type 0
MayBe may_hold room durable image = (image ≡ durable) ⊎ IsStoodFor may_hold (length durable) room image

-- What is found now stands for an image that might have been found before. So neither opening nor closing can fail and leave half a
-- journal.
abbrev pub StandsAmong : (ℕ → ℕ → Type 0) → (ℕ → ℕ → Type 0) → ℕ → List ℕ → Type 0
StandsAmong before now room durable = (image : List ℕ) → IsStoodFor now (length durable) room image → MayBe before room durable image

-- a file of `count` words has an image of `words`, a journal of `room`, and a tail
pub record IsFile (words room count : ℕ) : Type 0 where
  pub whole : words % 8 ≡ 0
  pub fits : words + room + 8 < 2 ^ 58
  pub size : count ≡ words + room + 8

-- whatever is found stands for the image that this file stands for, if it is as long as one of these
abbrev pub StandsAs : (ℕ → ℕ → Type 0) → ℕ → ℕ → List ℕ → Type 0
StandsAs may_hold words room file = IsFile words room (length file) → (image : List ℕ) → Opens words room file image → FoundOpens may_hold words room image

-- why no image is read: the file has another length, or its pass is none, or there is no memory
abbrev pub ReportsUnread : ℕ → ℕ → List ℕ → ErrorKind → Type 0
ReportsUnread words room file kind =
    ((kind ≡ InvalidInput) × (IsFile words room (length file) → ⊥))
    ⊎ (((kind ≡ InvalidData) × (1 < slice_index file (words + room + 3))) ⊎ (kind ≡ OutOfMemory))

-- eight words are a tail's, as far as these are the same in each
pub record IsTail (tail : List ℕ) : Type 0 where
  pub first : (slice_index tail 0 ≡ 0) ⊎ (slice_index tail 0 ≡ magic)
  pub pass : slice_index tail 3 < 2
  pub fourth : slice_index tail 4 ≡ 0
  pub fifth : slice_index tail 5 ≡ 0
  pub sixth : slice_index tail 6 ≡ 0
  pub seventh : slice_index tail 7 ≡ 0

-- the last words are a tail that names both
pub record HasTail (words room : ℕ) (file : List ℕ) : Type 0 where
  pub words_named : slice_index file (words + room + 1) ≡ words
  pub room_named : slice_index file (words + room + 2) ≡ room
  pub tail : IsTail (drop (words + room) file)

-- a run of words, from this one on, puts x into the word
abbrev pub IsInRun : ℕ → List ℕ → ℕ → ℕ → Type 0
IsInRun start news word x = (start ≤ word) × (word < start + length news) × (x ≡ slice_index news (word - start))
