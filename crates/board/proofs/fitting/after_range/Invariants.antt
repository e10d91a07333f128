use Rattle.std.proofs.Common.{◌≤◌, ◌+◌, ◌-◌, ℕ, List, ◌++◌, length}
use Rattle.std.specs.List.{range_with_len}
use Rattle.board.specs.Due.{Meets}
use Rattle.board.proofs.fitting.after_range.Given as goal

-- those so far were met
abbrev pub invariant-loop-timestamp : goal.invariant-loop-timestamp
invariant-loop-timestamp l =
    (l.used ≤ length l.commits)
    × ((met : List ℕ) → Meets l.commits l.first l.longs met → Meets l.commits l.used l.longs (met ++ range_with_len (l.before + 1) (l.timestamp - l.before)))
