-- Which lines the commits of a batch touch.
use Rattle.std.specs.Prelude.{◌≡◌, ℕ, Bool, nat_eq, List, map, IsTrue, Some}
use Rattle.std.specs.List.{list_any}
use Rattle.base.specs.Commits.{Commit}
use Rattle.base.specs.Records.{are_rising}
use Rattle.machine.specs.Machine.{State, Drawn, drawn_at}
use Rattle.state_invariant.specs.Kept.{commit_at}
use Rattle.device_invariant.specs.Log.{lines_in, line_number}

-- the commits are drawn, and rise
pub record AreDrawn (q : State) (commits : List Commit) : Type 0 where
  pub each : (t : ℕ) (commit : Commit) → commit_at commits t ≡ Some commit → (d : Drawn) × (drawn_at q t ≡ Some d) × (d.commit ≡ commit)
  pub rising : IsTrue (are_rising (map (λ commit. commit.timestamp) commits))

-- the lines that the commits touch, by their numbers on the device
abbrev pub line_numbers : State → List Commit → List ℕ
line_numbers q commits = map (line_number q.layout) (lines_in q commits)

-- the line is one of these
abbrev pub is_line_of : ℕ → List ℕ → Bool
is_line_of line lines = list_any (λ l. nat_eq l line) lines
