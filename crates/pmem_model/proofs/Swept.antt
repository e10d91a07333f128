-- A fence that visits all lines, one after the other.
use Rattle.std.proofs.Common.{◌≡◌, ℕ, ◌+◌, ◌/◌, ◌<◌, ◌≤◌, cond, List, [], ◌==◌, arith}
use Rattle.pmem.specs.Device.{Entry}

-- the words of the lines before this one are changed, and the others aren't
pub record SweptTo (line : ℕ) (change : List Entry → List Entry) (old new : ℕ → List Entry) : Type 0 where
  pub before : (word : ℕ) → word / 8 < line → new word ≡ change (old word)
  pub after : (word : ℕ) → line ≤ word / 8 → new word ≡ old word

pub swept-more : (line : ℕ) (change : List Entry → List Entry) (old mid new : ℕ → List Entry) → SweptTo line change old mid
    → ((word : ℕ) → new word ≡ cond ((word / 8) == line) (change (mid word)) (mid word)) → SweptTo (line + 1) change old new
swept-more line change old mid new swept step = grind (arith)

-- of all lines
pub swept-all : (lines words : ℕ) (change : List Entry → List Entry) (old new : ℕ → List Entry) → lines ≡ (words + 7) / 8 → change [] ≡ [] → ((word : ℕ) → words ≤ word → old word ≡ []) → SweptTo lines change old new
    → (word : ℕ) → new word ≡ change (old word)
swept-all lines words change old new lined empty none swept word = grind (arith)
