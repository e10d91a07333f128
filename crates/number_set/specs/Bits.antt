-- Sets of numbers as bits, 64 to a word.
use Rattle.std.specs.Prelude.{ℕ, ◌≡◌, ◌*◌, ◌/◌, ◌%◌, ◌^◌, ◌<◌, ◌≤◌, Bool, true, false, not, nat_eq, List, length, slice_index_or}
use Rattle.std.specs.Int.{bit_at}

-- the word has the bit
abbrev pub has_bit : ℕ → ℕ → Bool
has_bit word n = nat_eq (bit_at word n) 1

-- the number is in the set
abbrev pub is_in : List ℕ → ℕ → Bool
is_in words k = has_bit (slice_index_or words (k / 64) 0) (k % 64)

-- the lowest bit of the word, from bit `low` on
pub record IsLowestBit (word low k : ℕ) : Type 0 where
  pub above : low ≤ k
  pub within : k < 64
  pub here : has_bit word k ≡ true
  pub before : (i : ℕ) → low ≤ i → i < k → has_bit word i ≡ false

-- the lowest number of the set, from `from` on
pub record IsLowest (words : List ℕ) (from k : ℕ) : Type 0 where
  pub low : from ≤ k
  pub within : k / 64 < length words
  pub here : is_in words k ≡ true
  pub before : (i : ℕ) → from ≤ i → i < k → is_in words i ≡ false

-- none is in the set, from this one on
abbrev pub IsClearFrom : List ℕ → ℕ → Type 0
IsClearFrom words from = (i : ℕ) → from ≤ i → is_in words i ≡ false

-- the summary has those words that aren't 0
pub record IsSummed (words summary : List ℕ) : Type 0 where
  pub sums : (at : ℕ) → is_in summary at ≡ not (nat_eq (slice_index_or words at 0) 0)
  pub enough : length words ≤ 64 * length summary
  pub few : length words < 2 ^ 57
  pub small : length summary < 2 ^ 57
