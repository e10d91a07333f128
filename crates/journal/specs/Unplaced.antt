-- Lines of an image that may not be in place yet.
use Rattle.std.specs.Prelude.{◌≡◌, ℕ, ◌*◌, ◌/◌, ◌%◌, ◌<◌, Bool, true, false, List, length, slice_index, slice_index_or}
use Rattle.journal.specs.declared.line.Line.{Line}
use Rattle.journal.specs.InPlace.{put_over}
use Rattle.journal.specs.Kept.{is_put_at}

-- the line of this number is marked
abbrev pub is_marked : List Bool → ℕ → Bool
is_marked marks number = slice_index_or marks number false

-- the line is marked, and has x at this word
abbrev pub IsOfLine : Line → List Bool → ℕ → ℕ → Type 0
IsOfLine line marks word x = (is_marked marks line.number ≡ true) × (word / 8 ≡ line.number) × (x ≡ slice_index line.words (word % 8))

-- In place nothing is found but the words of this image, except in these lines; and put over it one after the other, they make the
-- image's words. They are the lines that are marked.
-- Excluded: a line of the journal that isn't written in place before the journal no longer counts.
pub record IsPlacedBut (may_hold : ℕ → ℕ → Type 0) (lines : List Line) (marks : List Bool) (image : List ℕ) : Type 0 where
  pub size : 8 * length marks ≡ length image
  pub marked : (number : ℕ) → number < length marks → is_marked marks number ≡ is_put_at lines number
  pub makes : (word value : ℕ) → word < length image → is_put_at lines (word / 8) ≡ true → put_over lines word value ≡ slice_index image word
  pub others : (word x : ℕ) → word < length image → is_put_at lines (word / 8) ≡ false → may_hold word x → x ≡ slice_index image word
