-- Which sessions touch which lines.
use Rattle.std.specs.Prelude.{ℕ, ◌≡◌, ◌<◌, ◌≤◌, ◌^◌, Bool, true, false, ◌&&◌, ◌||◌, not, nat_eq, List, length, filter, slice_index_or, bit_and}
use Rattle.std.specs.List.{list_any, range_with_len}
use Rattle.dirty_table.specs.declared.sessions.SessionSet.{SessionSet}
use Rattle.number_set.specs.Bits.{has_bit}
use Rattle.number_set.specs.Numbers.{has as is_in}

-- the session is in the set
abbrev pub has : SessionSet → ℕ → Bool
has sessions n = has_bit sessions.bits n

-- the lowest session of the set, from this number on
pub record IsNextIn (sessions : SessionSet) (from n : ℕ) : Type 0 where
  pub above : from ≤ n
  pub within : n < 64
  pub here : has sessions n ≡ true
  pub before : (k : ℕ) → from ≤ k → k < n → has sessions k ≡ false

-- some session is in both sets
abbrev pub meets : SessionSet → SessionSet → Bool
meets one two = not (nat_eq (bit_and one.bits two.bits) 0)

-- the sessions that touch the line, given a table that lists those of each line
abbrev pub sessions_at : List SessionSet → ℕ → SessionSet
sessions_at table line = slice_index_or table line (record { bits = 0 })

-- the session touches the line
abbrev pub is_touched : List SessionSet → ℕ → ℕ → Bool
is_touched table session line = has (sessions_at table line) session

-- the lines that one of these sessions touches, by rising line
abbrev pub lines_touched : SessionSet → List SessionSet → List ℕ
lines_touched which table = filter (λ line. meets which (sessions_at table line)) (range_with_len 0 (length table))

-- the session touches these lines too, and what others touch stays
pub record Touches (session : ℕ) (lines : List ℕ) (old new : List SessionSet) : Type 0 where
  pub touched : (n line : ℕ) → is_touched new n line ≡ (is_touched old n line || (nat_eq session n && list_any (λ l. nat_eq l line) lines))
  pub size : length new ≡ length old

-- these sessions touch no line any more, and what others touch stays
pub record Forgets (sessions : SessionSet) (old new : List SessionSet) : Type 0 where
  pub touched : (n line : ℕ) → is_touched new n line ≡ (is_touched old n line && not (has sessions n))
  pub size : length new ≡ length old

-- nobody touches a line from this one on
abbrev pub IsUntouchedFrom : List SessionSet → ℕ → Type 0
IsUntouchedFrom table from = (line : ℕ) → from ≤ line → (n : ℕ) → is_touched table n line ≡ false

-- the lowest line, from `from` on, that may be touched
pub record IsNextTouched (table : List SessionSet) (from line : ℕ) : Type 0 where
  pub low : from ≤ line
  pub within : line < length table
  pub small : line < 2 ^ 62
  pub before : (k : ℕ) → from ≤ k → k < line → (n : ℕ) → is_touched table n k ≡ false

-- each line that somebody touches is noted, in a set of lines of the table
pub record IsNoted (table : List SessionSet) (noted : List Bool) : Type 0 where
  pub each : (n line : ℕ) → is_touched table n line ≡ true → is_in noted line ≡ true
  pub size : length noted ≡ length table
  pub few : length table < 2 ^ 62
