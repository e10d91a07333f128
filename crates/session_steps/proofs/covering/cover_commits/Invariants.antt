use Rattle.std.specs.Prelude.{take, ◌≡◌, ℕ}
use Rattle.dirty_table.specs.Touches.{has}
use Rattle.session_steps.specs.Shows.{has_drawn_by}
use Rattle.session_steps.specs.Covering.{CoversCommits, MarksReplaced, committed_by}
use Rattle.session_steps.proofs.covering.cover_commits.Given as goal

abbrev pub invariant-loop-commit : goal.invariant-loop-commit
invariant-loop-commit l = record {
  index : CoversCommits (committed_by l.ruling (take l.commit-index l.commits)) l.initial.index l.index;
  marks : MarksReplaced l.initial.replaced l.replaced l.initial.index l.index;
  sessions : (n : ℕ) → has l.sessions n ≡ has_drawn_by (committed_by l.ruling (take l.commit-index l.commits)) n;
}
