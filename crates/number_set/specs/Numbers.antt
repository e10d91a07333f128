-- Sets of numbers, by a truth value for each number below a length.
use Rattle.std.specs.Prelude.{ℕ, ◌*◌, ◌^◌, ◌<◌, ◌≤◌, ◌≡◌, Bool, true, false, List, length, map, slice_index_or}
use Rattle.std.specs.List.{range_with_len}
use Rattle.base.specs.Search.{count_below}
use Rattle.number_set.specs.Bits.{is_in, IsClearFrom}

-- the number is in the set
abbrev pub has : List Bool → ℕ → Bool
has set number = slice_index_or set number false

-- how many are in the set
abbrev pub count_of : List Bool → ℕ
count_of set = count_below (length set) (has set)

-- the lowest number of the set, from `from` on
pub record IsFirstFrom (set : List Bool) (from number : ℕ) : Type 0 where
  pub above : from ≤ number
  pub here : has set number ≡ true
  pub before : (k : ℕ) → from ≤ k → k < number → has set k ≡ false

-- none is in the set, from this one on
abbrev pub IsNoneFrom : List Bool → ℕ → Type 0
IsNoneFrom set from = (k : ℕ) → from ≤ k → has set k ≡ false

-- the numbers below the length whose bits are set
abbrev pub members : ℕ → List ℕ → List Bool
members n words = map (is_in words) (range_with_len 0 n)

-- the words have a bit for each number below the length, and no others are set
pub record HoldsMembers (n counted : ℕ) (words : List ℕ) : Type 0 where
  pub fits : n ≤ 64 * length words
  pub few : length words < 2 ^ 57
  pub beyond : IsClearFrom words n
  pub sums : counted ≡ count_below n (is_in words)
