-- How many operations are left until one fails.
use Rattle.std.specs.Prelude.{ℕ, ◌-◌, Bool, false, Option, None, Some, if◌then◌else◌, ◌==◌}

-- none is left: the next operation fails
abbrev pub is_out : Option ℕ → Bool
is_out None = false
is_out (Some left) = left == 0

-- after an operation more
abbrev pub spent : Option ℕ → Option ℕ
spent None = None
spent (Some left) = Some (left - 1)

-- after an operation that failed: a single failure is over once it came
abbrev pub used : Option ℕ → Option ℕ
used None = None
used (Some left) = if left == 0 then None else Some left
