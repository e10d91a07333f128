-- The slots whose versions were replaced.
use Rattle.std.specs.Prelude.{ℕ, Bool, true, List, slice_set, Option, Some, None}

-- the slots, with this one, if there is one
abbrev pub marked : Option ℕ → List Bool → List Bool
marked (Some slot) slots = slice_set slots slot true
marked None slots = slots
