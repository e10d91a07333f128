-- How the slots of a state are used.
use Rattle.std.specs.Prelude.{◌≡◌, ℕ, List, length, is_none}
use Rattle.base.specs.declared.key.Key.{Key}
use Rattle.base.specs.Commits.{after, Lists}
use Rattle.base.specs.Search.{count_below}
use Rattle.machine.specs.Machine.{State}

-- how many slots hold no version
abbrev pub free_slots : State → ℕ
free_slots q = count_below q.layout.slots (λ slot. is_none (q.held slot))

-- the list of the covered rows has this length
abbrev pub CountsRows : State → ℕ → Type 0
CountsRows q count = (rows : List (Key × List ℕ)) → Lists rows (after q.history) → count ≡ length rows
