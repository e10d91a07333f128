-- The lines in which words differ from others.
use Rattle.std.specs.Prelude.{◌≡◌, ℕ, ◌+◌, ◌*◌, ◌/◌, ◌<◌, ◌≤◌, Bool, true, false, ◌||◌, List, [], ◌∷◌, length, slice_index, ◌==◌, All}
use Rattle.journal.specs.declared.line.Line.{Line}
use Rattle.journal.specs.InPlace.{put_over}
use Rattle.journal.specs.Kept.{IsPut, is_put_at}
use Rattle.journal.specs.Opened.{AreLines}

-- it is one of these numbers
abbrev pub is_listed : List ℕ → ℕ → Bool
is_listed [] number = false
is_listed (first ∷ numbers) number = (first == number) || is_listed numbers number

-- The image has other words than these in the lines of these numbers alone.
-- Excluded: a line left out of an entry.
pub record DiffersIn (numbers words image : List ℕ) : Type 0 where
  pub size : length image ≡ length words
  pub others : (word : ℕ) → word < length words → is_listed numbers (word / 8) ≡ false → slice_index image word ≡ slice_index words word

-- lines of these words, which make them of the durable ones
pub record AreChanged (lines : List Line) (durable words : List ℕ) : Type 0 where
  pub makes : (word : ℕ) → word < length words → put_over lines word (slice_index durable word) ≡ slice_index words word
  pub lines_are : AreLines lines
  pub within : All (λ line. 8 * line.number + 8 ≤ length words) lines

-- lines of these words, and among them each of these numbers
pub record AreFound (lines : List Line) (words numbers : List ℕ) : Type 0 where
  pub puts : (word x : ℕ) → IsPut lines word x → x ≡ slice_index words word
  pub has : (word : ℕ) → word < length words → is_listed numbers (word / 8) ≡ true → is_put_at lines (word / 8) ≡ true
  pub lines_are : AreLines lines
  pub within : All (λ line. 8 * line.number + 8 ≤ length words) lines
