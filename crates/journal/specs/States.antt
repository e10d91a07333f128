-- What is known of the file of a journal between two of its writes.
use Rattle.std.specs.Prelude.{◌≡◌, ℕ, ◌+◌, ◌<◌, ◌≤◌, Bool, true, List, ◌++◌, length, map, replicate, slice_index}
use Rattle.journal.specs.declared.line.Line.{Line}
use Rattle.journal.specs.Entries.{NoneOf}
use Rattle.journal.specs.Several.{journal}
use Rattle.journal.specs.Passes.{AllOf}
use Rattle.journal.specs.LinePayloads.{payloads_of_lines}
use Rattle.journal.specs.Kept.{HoldsOnly}
use Rattle.journal.specs.Opened.{all_lines, journal_of, AreLines}
use Rattle.journal.specs.Files.{pass_word, tail_of, journal_in, is_on, Opens}
use Rattle.journal.specs.ReadBack.{IsReadBack}

-- one journal is known to be there, with a tail of this pass, and words in place with which it stands for this image
pub record KnowsJournal (may_hold : ℕ → ℕ → Type 0) (words room : ℕ) (pass : Bool) (durable : List ℕ) : Type 0 where
  pub file : List ℕ
  pub size : length file ≡ words + room + 8
  pub behind : IsReadBack may_hold words room file
  pub opens : Opens words room file durable
  pub pass_is : is_on words room file ≡ true → slice_index file (words + room + 3) ≡ pass_word pass

-- one file is known to be there, and it stands for this image
pub record Knows (may_hold : ℕ → ℕ → Type 0) (words room : ℕ) (pass : Bool) (durable : List ℕ) : Type 0 where
  pub file : List ℕ
  pub size : length file ≡ words + room + 8
  pub holds : HoldsOnly may_hold (words + room + 8) file
  pub opens : Opens words room file durable
  pub pass_is : is_on words room file ≡ true → slice_index file (words + room + 3) ≡ pass_word pass

-- and has it in place
pub record IsInPlace (may_hold : ℕ → ℕ → Type 0) (words room : ℕ) (pass : Bool) (durable : List ℕ) : Type 0 where
  pub known : Knows may_hold words room pass durable
  pub place : (word : ℕ) → word < words → slice_index known.file word ≡ slice_index durable word

-- the image is in place, and the journal doesn't count
pub record IsOff (may_hold : ℕ → ℕ → Type 0) (words room : ℕ) (durable : List ℕ) : Type 0 where
  pub size : length durable ≡ words
  pub place : HoldsOnly may_hold words durable
  pub off : (x : ℕ) → may_hold (words + room) x → x ≡ 0

-- and has nothing in it
pub record IsClear (may_hold : ℕ → ℕ → Type 0) (words room : ℕ) (durable : List ℕ) : Type 0 where
  pub size : length durable ≡ words
  pub holds : HoldsOnly may_hold (words + room + 8) (durable ++ (replicate room 0 ++ tail_of 0 words room true))

-- the image is in place, and each word of the journal is of this pass
pub record IsFull (may_hold : ℕ → ℕ → Type 0) (words room : ℕ) (pass : Bool) (durable : List ℕ) : Type 0 where
  pub here : IsInPlace may_hold words room pass durable
  pub on : is_on words room here.known.file ≡ true
  pub all : AllOf pass (journal_in words room here.known.file)

-- whole entries of this pass, which take `position` words, and behind them no word of the pass
pub record Rests (may_hold : ℕ → ℕ → Type 0) (words room : ℕ) (pass : Bool) (position : ℕ) (durable : List ℕ) : Type 0 where
  pub known : Knows may_hold words room pass durable
  pub on : is_on words room known.file ≡ true
  pub entries : List (List Line)
  pub behind : List ℕ
  pub written : journal_in words room known.file ≡ journal_of pass entries behind
  pub position_is : length (journal pass (map payloads_of_lines entries)) ≡ position
  pub none : NoneOf pass behind
  pub lines : AreLines (all_lines entries)

-- nothing but 0 is found of the journal
abbrev pub HoldsZeros : (ℕ → ℕ → Type 0) → ℕ → ℕ → Type 0
HoldsZeros may_hold words room = (word x : ℕ) → words ≤ word → word < words + room → may_hold word x → x ≡ 0

-- the tail is found only as this one
abbrev pub HoldsTail : (ℕ → ℕ → Type 0) → ℕ → ℕ → List ℕ → Type 0
HoldsTail may_hold words room tail = (place x : ℕ) → place < 8 → may_hold (words + room + place) x → x ≡ slice_index tail place

-- The journal has nothing but zeros, and they are nothing in the pass that counts. Then nothing has to be cleared.
abbrev pub IsBlank : (ℕ → ℕ → Type 0) → ℕ → ℕ → Bool → Type 0
IsBlank may_hold words room pass = (pass ≡ true) × HoldsZeros may_hold words room
