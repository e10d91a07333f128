-- Functions on lists, and on functions of numbers.
use Rattle.std.specs.Prelude.{ℕ, Bool, true, false, nat_eq, if◌then◌else◌, List, [], ◌∷◌}

-- the list is empty
abbrev pub is_nil : {X : Type 0} → List X → Bool
is_nil [] = true
is_nil (x ∷ xs) = false

-- the function with another value at one number
abbrev pub replaced : {X : Type 0} → ℕ → X → (ℕ → X) → ℕ → X
replaced at value f n = if nat_eq n at then value else f n
