use Rattle.std.proofs.Common.{◌≤◌, length, take}
use Rattle.board.specs.Due.{Meets}
use Rattle.board.proofs.fitting.after_left.Given as goal

-- those so far were met
abbrev pub invariant-loop-timestamp : goal.invariant-loop-timestamp
invariant-loop-timestamp l = (l.used ≤ length l.commits) × Meets l.commits l.used l.longs (take l.timestamp-index l.left)
