-- What the code tests of a version's end.
use Rattle.std.specs.Prelude.{ℕ, Bool, true, ◌&&◌, Option, Some, None}
use Rattle.std.specs.List.{list_all}
use Rattle.machine.specs.Machine.{State, Session, Active, Drew, WroteNothing, session_numbers}
use Rattle.snapshot.specs.Snapshots.{Seen, covers, seen_by}

-- the session's snapshot covers it, if the session is active
abbrev pub is_covered_for : Seen → ℕ → Option Session → Bool
is_covered_for snapshot t None = true
is_covered_for snapshot t (Some (Active begun writes)) = covers snapshot t
is_covered_for snapshot t (Some (Drew u)) = true
is_covered_for snapshot t (Some WroteNothing) = true

-- the ruling record covers it, and so does each active session's snapshot
abbrev pub is_covered_by_all : State → (ℕ → Seen) → ℕ → Bool
is_covered_by_all q snapshots t = covers (seen_by q.ruling) t && list_all (λ n. is_covered_for (snapshots n) t (q.sessions n)) session_numbers
