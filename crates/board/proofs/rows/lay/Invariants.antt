use Rattle.std.proofs.Common.{◌≡◌, take}
use Rattle.base.specs.declared.key.Key.{Key}
use Rattle.base.specs.Keys.{lookup_key}
use Rattle.board.specs.Cells.{after_commits}
use Rattle.board.proofs.rows.lay.Given as goal

abbrev pub invariant-loop-commit : goal.invariant-loop-commit
invariant-loop-commit l = (k : Key) → lookup_key l.rows.entries k ≡ after_commits k (lookup_key l.initial.rows.entries k) (take l.commit-index l.commits)
