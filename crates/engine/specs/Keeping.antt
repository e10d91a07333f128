-- Which stamps of an engine's board may be read.
use Rattle.std.specs.Prelude.{◌≡◌, ℕ, ◌-◌, ◌≤◌, max}
use Rattle.base.specs.Published.{Published, last_stamp}

-- the lowest stamp of the last sixteen, or the first of all if the list has fewer
abbrev pub lowest : Published → ℕ
lowest list = max list.stamp (last_stamp list - 15)

-- the last sixteen stamps of the list may be read, or all if it has fewer, and no others
abbrev pub KeepsSixteen : Published → Type 0
KeepsSixteen list = list.floor ≡ lowest list

-- these may be read, and perhaps some before them
pub record KeepsEnough (list : Published) : Type 0 where
  pub first : list.stamp ≤ list.floor
  pub enough : list.floor ≤ lowest list
