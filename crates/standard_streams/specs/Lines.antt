-- Lines that are written, as bytes.
use Rattle.std.specs.Prelude.{◌≡◌, ◌⊎◌, ℕ, ◌+◌, ◌<◌, ◌≤◌, Bool, true, false, ◌||◌, List, [], ◌∷◌, ◌++◌, length, get_or, eqb, codes, if◌then◌else◌}
use Rattle.std.specs.List.{starts_with, ends_with}

-- a line feed is only at the end
abbrev pub IsOneLine : List ℕ → Type 0
IsOneLine bytes = (at : ℕ) → at < length bytes → get_or bytes at 0 ≡ 10 → at + 1 ≡ length bytes

-- a line feed is at the end
abbrev pub is_ended : List ℕ → Bool
is_ended bytes = ends_with eqb bytes (10 ∷ [])

-- the line reports that the work was done, so none follows it
abbrev pub ends_work : List ℕ → Bool
ends_work line = (starts_with eqb line (codes "closed") || starts_with eqb line (codes "formatted")) || starts_with eqb line (codes "stopped")

-- of what is held, the line that isn't ended yet
abbrev pub unfinished : List ℕ → List ℕ
unfinished held = if is_ended held then [] else held

-- the line has to be held back: it isn't ended yet, or reports that the work was done
abbrev pub IsHeldBack : List ℕ → Type 0
IsHeldBack line = (is_ended line ≡ false) ⊎ (ends_work line ≡ true)

-- the first line of some bytes: they begin with it, and it goes up to a line feed, or is all of them
pub record IsFirstLine (bytes line : List ℕ) : Type 0 where
  pub rest : List ℕ
  pub is : bytes ≡ line ++ rest
  pub one_line : IsOneLine line
  pub whole : is_ended line ≡ false → rest ≡ []

-- At most the first line of the bytes is taken. With what was held of its beginning, all of it is held if it has to be held back; if it is
-- another, whole line, nothing is held
pub record TakesLine (old new bytes : List ℕ) (count : ℕ) : Type 0 where
  pub line : List ℕ
  pub first : IsFirstLine bytes line
  pub most : count ≤ length line
  pub holds : IsHeldBack (unfinished old ++ line) → (count ≡ length line) × (new ≡ unfinished old ++ line)
  pub passes : unfinished old ≡ [] → is_ended line ≡ true → ends_work line ≡ false → new ≡ []
