-- Lines that are put somewhere, and what they say of a word.
use Rattle.std.specs.Prelude.{◌≡◌, ◌⊎◌, ℕ, ◌/◌, ◌%◌, ◌<◌, Bool, false, ◌||◌, List, [], ◌∷◌, length, slice_index, ◌==◌}
use Rattle.journal.specs.declared.line.Line.{Line}

-- one of the lines puts x into the word
abbrev pub IsPut : List Line → ℕ → ℕ → Type 0
IsPut [] word x = ⊥
IsPut (line ∷ lines) word x = ((line.number ≡ word / 8) × (x ≡ slice_index line.words (word % 8))) ⊎ IsPut lines word x

-- one of them has this number
abbrev pub is_put_at : List Line → ℕ → Bool
is_put_at [] number = false
is_put_at (line ∷ lines) number = (line.number == number) || is_put_at lines number

-- Nothing but these values is found of the first `count` words. A device requires this at the start.
abbrev pub HoldsOnly : (ℕ → ℕ → Type 0) → ℕ → List ℕ → Type 0
HoldsOnly may_hold count words = (word x : ℕ) → word < count → may_hold word x → x ≡ slice_index words word

-- an image of `count` words, each of which may be found with its value
pub record IsFound (may_hold : ℕ → ℕ → Type 0) (count : ℕ) (image : List ℕ) : Type 0 where
  pub size : length image ≡ count
  pub each : (word : ℕ) → word < count → may_hold word (slice_index image word)
