-- What is found of a file that has an image in place and a journal, at each instant.
use Rattle.std.specs.Prelude.{◌≡◌, ◌≢◌, ◌⊎◌, ℕ, ◌/◌, Bool, not, List, [], ◌∷◌, ◌++◌, length, map, slice_index, All}
use Rattle.journal.specs.declared.line.Line.{Line}
use Rattle.journal.specs.Entries.{NoneOf, entry, over, IsMixture}
use Rattle.journal.specs.Several.{read_all, journal}
use Rattle.journal.specs.Passes.{joined, IsFilling, AllOf}
use Rattle.journal.specs.LinePayloads.{payloads_of_lines, lines_of, IsLine}
use Rattle.journal.specs.InPlace.{put_over}

-- the lines of all entries
abbrev pub lines_found : Bool → List ℕ → List Line
lines_found pass words = lines_of (length (joined (read_all pass words)) / 9) (joined (read_all pass words))

-- a word of the image that is opened
abbrev pub opened : Bool → List ℕ → List ℕ → ℕ → ℕ
opened pass image words word = put_over (lines_found pass words) word (slice_index image word)

-- the lines of these entries, in their order
abbrev pub all_lines : List (List Line) → List Line
all_lines [] = []
all_lines (lines ∷ entries) = lines ++ all_lines entries

-- a journal of these entries, and what is behind it
abbrev pub journal_of : Bool → List (List Line) → List ℕ → List ℕ
journal_of pass entries behind = journal pass (map payloads_of_lines entries) ++ behind

-- each of them is a line as memory has it
abbrev pub AreLines : List Line → Type 0
AreLines lines = All (λ line. IsLine line) lines

-- the file stands for what these lines make of this image
abbrev pub OpensTo : Bool → List ℕ → List ℕ → List Line → List ℕ → Type 0
OpensTo pass found words lines image = (word : ℕ) → opened pass found words word ≡ put_over lines word (slice_index image word)

-- At each instant the file stands for the same image, except that an append may or may not have counted.
-- Excluded: a journal that is cleared while it counts; a pass that begins while words of its own are left from before.
pub record FileStates : Type 0 where
  -- at rest
  pub ready : (pass : Bool) (entries : List (List Line)) (image old : List ℕ) → AreLines (all_lines entries) → NoneOf pass old
      → OpensTo pass image (journal_of pass entries old) (all_lines entries) image
  -- while lines are appended as an entry: all of them if all of it is there, otherwise none
  pub appending : (pass : Bool) (entries : List (List Line)) (changed : List Line) (image old words : List ℕ) → AreLines (all_lines entries) → AreLines changed → NoneOf pass old
      → IsMixture old (entry pass (payloads_of_lines changed)) words
      → ((words ≡ over (entry pass (payloads_of_lines changed)) old) × OpensTo pass image (journal_of pass entries words) (all_lines entries ++ changed) image)
      ⊎ ((words ≢ over (entry pass (payloads_of_lines changed)) old) × OpensTo pass image (journal_of pass entries words) (all_lines entries) image)
  -- while the image is written in place, and the rest of the journal is filled
  pub filling : (pass : Bool) (entries : List (List Line)) (image found old words : List ℕ) → AreLines (all_lines entries) → NoneOf pass old → IsFilling pass old words
      → ((word : ℕ) → (slice_index found word ≡ slice_index image word) ⊎ (slice_index found word ≡ put_over (all_lines entries) word (slice_index image word)))
      → OpensTo pass found (journal_of pass entries words) (all_lines entries) image
  -- once the next pass began
  pub next : (pass : Bool) (image words : List ℕ) → AllOf pass words → OpensTo (not pass) image words [] image
