-- How far a list of commits covers what is due.
use Rattle.std.specs.Prelude.{ℕ, ◌≡◌, Bool, not, List, map, filter, take}
use Rattle.base.specs.Commits.{Commit}
use Rattle.board.specs.Lists.{is_among}

-- the timestamp isn't long
abbrev pub stay : List ℕ → ℕ → Bool
stay longs t = not (is_among longs t)

-- the first `used` commits have just the timestamps that were met, without the long ones
abbrev pub Meets : List Commit → ℕ → List ℕ → List ℕ → Type 0
Meets commits used longs met = map (λ commit. commit.timestamp) (take used commits) ≡ filter (stay longs) met
