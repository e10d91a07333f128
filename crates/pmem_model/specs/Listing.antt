-- Which lines an actor's next fence visits.
use Rattle.std.specs.Prelude.{◌≡◌, ℕ, zero, suc, ◌+◌, ◌*◌, ◌/◌, ◌<◌, ◌≤◌, Bool, true, false, ◌||◌, List, slice_index, ◌==◌, nat_le}
use Rattle.pmem.specs.Device.{Entry}
use Rattle.pmem.specs.Awaits.{is_awaited}

-- the line at this place of the actor's list
abbrev pub line_at : List ℕ → ℕ → ℕ → ℕ
line_at listed actor place = slice_index listed (64 * place + actor)

-- it is at one of the first n places of the actor's list
abbrev pub is_listed : List ℕ → ℕ → ℕ → ℕ → Bool
is_listed listed actor line zero = false
is_listed listed actor line (suc n) = (line == line_at listed actor n) || is_listed listed actor line n

-- the actor's list has it, or has no room left
abbrev pub is_pending : ℕ → List ℕ → List ℕ → ℕ → ℕ → Bool
is_pending room counts listed actor line = nat_le room (slice_index counts actor) || is_listed listed actor line (slice_index counts actor)

-- each list is within its room, and has lines of the device
pub record IsListing (lines room : ℕ) (counts listed : List ℕ) : Type 0 where
  pub within : (actor : ℕ) → slice_index counts actor ≤ room
  pub in_lines : (actor place : ℕ) → actor < 64 → place < slice_index counts actor → line_at listed actor place < lines

-- if a fence by an actor would change a word, the word's line is pending for that actor
pub record IsTracked (history : ℕ → List Entry) (room : ℕ) (counts listed : List ℕ) : Type 0 where
  pub each : (actor word : ℕ) → actor < 64 → is_awaited actor (history word) ≡ true → is_pending room counts listed actor (word / 8) ≡ true
