-- Commits that are drawn and not covered.
use Rattle.std.specs.Prelude.{ℕ, Bool, ◌+◌, ◌&&◌, not, map, nat_eq, nat_le, nat_lt, length, find, if◌then◌else◌, List, Option}
use Rattle.std.specs.List.{list_all, position_or_len}
use Rattle.base.specs.Choosing.{Drawn}
use Rattle.base.specs.Records.{are_rising}
use Rattle.snapshot.specs.Snapshots.{Seen, covers}
use Rattle.txn.specs.declared.drawn.DrawnCommit.{DrawnCommit}
use Rattle.txn.specs.WriteSets.{plain_writes}

-- what the plain machine knows about it
abbrev pub plain_drawn : DrawnCommit → Drawn
plain_drawn d = record { commit = record { timestamp = d.timestamp; writes = plain_writes d.writes }; stamped = d.stamped }

-- each was drawn by a session that may be open
abbrev pub are_numbered : List DrawnCommit → Bool
are_numbered commits = list_all (λ d. nat_lt d.session 64) commits

-- each timestamp is above the one before it
abbrev pub are_in_order : List DrawnCommit → Bool
are_in_order commits = are_rising (map (λ d. d.timestamp) commits)

-- each timestamp is below this one
abbrev pub are_below : ℕ → List DrawnCommit → Bool
are_below t commits = list_all (λ d. nat_lt d.timestamp t) commits

-- how many come before the first whose timestamp isn't below this one
abbrev pub place_of : ℕ → List DrawnCommit → ℕ
place_of t commits = position_or_len (λ d. nat_le t d.timestamp) commits

-- the commit of this timestamp
abbrev pub drawn_at : ℕ → List DrawnCommit → Option DrawnCommit
drawn_at t commits = find (λ d. nat_eq d.timestamp t) commits

-- with one more write stamped, if it has the timestamp and one is left
abbrev pub with_stamp : ℕ → DrawnCommit → DrawnCommit
with_stamp t d = if nat_eq d.timestamp t && nat_lt d.stamped (length d.writes) then record d { stamped = d.stamped + 1 } else d

-- the snapshot doesn't cover the commit
abbrev pub is_uncovered : Seen → DrawnCommit → Bool
is_uncovered snapshot d = not (covers snapshot d.timestamp)
