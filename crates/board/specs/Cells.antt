-- One key's row after commits and batches.
use Rattle.std.specs.Prelude.{ℕ, fold, nat_le, if◌then◌else◌, Bool, List, Option, unwrap_or}
use Rattle.std.specs.List.{list_any}
use Rattle.base.specs.declared.key.Key.{Key}
use Rattle.base.specs.Keys.{lookup_key}
use Rattle.base.specs.Commits.{Commit, writes_key}
use Rattle.base.specs.Batches.{Batch}

-- the key's row after a commit
abbrev pub after_commit : Key → Option (List ℕ) → Commit → Option (List ℕ)
after_commit key row commit = unwrap_or (lookup_key commit.writes key) row

-- the key's row after these commits, in turn
abbrev pub after_commits : Key → Option (List ℕ) → List Commit → Option (List ℕ)
after_commits key row commits = fold (after_commit key) row commits

-- one of the commits writes the key
abbrev pub is_written : Key → List Commit → Bool
is_written key commits = list_any (writes_key key) commits

-- the key's row after a batch, if it is not above the stamp
abbrev pub after_batch : Key → ℕ → Option (List ℕ) → Batch → Option (List ℕ)
after_batch key stamp row batch = if nat_le batch.stamp stamp then after_commits key row batch.commits else row

-- and after the batches up to the stamp
abbrev pub after_batches : Key → ℕ → Option (List ℕ) → List Batch → Option (List ℕ)
after_batches key stamp row batches = fold (after_batch key stamp) row batches
