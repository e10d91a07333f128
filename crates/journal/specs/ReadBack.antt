-- A file whose journal and tail are known, and whose words in place may still be found otherwise.
use Rattle.std.specs.Prelude.{◌≡◌, ℕ, ◌+◌, ◌<◌, ◌≤◌, List, length, slice_index}
use Rattle.journal.specs.Kept.{IsFound}
use Rattle.journal.specs.InPlace.{put_over}
use Rattle.journal.specs.Files.{lines_in, Opens}

-- x is this word of the file, and the word is behind an image of `words`
abbrev pub IsReadWord : ℕ → List ℕ → ℕ → ℕ → Type 0
IsReadWord words file word x = (words ≤ word) × (word < length file) × (x ≡ slice_index file word)

-- Nothing but what was read is found of the journal and the tail; of the words in place nothing is said. Opening requires this, too.
abbrev pub IsReadBack : (ℕ → ℕ → Type 0) → ℕ → ℕ → List ℕ → Type 0
IsReadBack may_hold words room file = (word x : ℕ) → words ≤ word → word < words + room + 8 → may_hold word x → x ≡ slice_index file word

-- Whatever a word in place is found as, the lines of the journal make the same of it as of the one that was read: a word of no line is
-- found only as it was read. Then opening can't fail and leave half a journal. It is so of files whose journal decides
-- (`JournalDecides`). Opening requires this, and writes nothing else in place than these lines.
-- Excluded: opening that leaves a line of the journal as it was read in place, which no disk may have.
abbrev pub StandsStill : (ℕ → ℕ → Type 0) → ℕ → ℕ → List ℕ → Type 0
StandsStill may_hold words room file = (word x : ℕ) → word < words → may_hold word x → put_over (lines_in words room file) word x ≡ put_over (lines_in words room file) word (slice_index file word)

-- two files that may be found stand for the same image, if they have the same journal and the same tail
pub record JournalDecides (may_hold : ℕ → ℕ → Type 0) (words room : ℕ) : Type 0 where
  pub same : (file other image : List ℕ) → IsFound may_hold (words + room + 8) file → IsFound may_hold (words + room + 8) other
      → ((word : ℕ) → words ≤ word → word < words + room + 8 → slice_index other word ≡ slice_index file word)
      → Opens words room file image → Opens words room other image

-- one journal is known to be there, and the words in place with it stand for this image, whatever they are found as
pub record Covers (may_hold : ℕ → ℕ → Type 0) (words room : ℕ) (durable : List ℕ) : Type 0 where
  pub file : List ℕ
  pub size : length file ≡ words + room + 8
  pub behind : IsReadBack may_hold words room file
  pub opens : Opens words room file durable
  pub still : StandsStill may_hold words room file
