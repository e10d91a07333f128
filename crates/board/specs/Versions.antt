-- What batches wrote, by key and stamp.
use Rattle.std.specs.Prelude.{ℕ, ◌≡◌, ◌<◌, ◌≤◌, nat_eq, ◌&&◌, if◌then◌else◌, fold, List, [], ◌∷◌, Option, None, Some, MatchOption}
use Rattle.std.specs.Option.{option_or}
use Rattle.base.specs.declared.key.Key.{Key}
use Rattle.base.specs.Keys.{key_eq, lookup_key}
use Rattle.base.specs.Commits.{Commit}
use Rattle.base.specs.Batches.{Batch}
use Rattle.base.specs.Published.{Follow}
use Rattle.board.specs.declared.versions.Place.{Place}

-- the version that a map has under a key at a stamp: a row, or `None` for a deletion
abbrev pub lookup_version : List (Place × Option (List ℕ)) → Key → ℕ → Option (Option (List ℕ))
lookup_version [] key stamp = None
lookup_version (version ∷ versions) key stamp = if key_eq version.0.key key && nat_eq version.0.stamp stamp then Some version.1 else lookup_version versions key stamp

-- what a list of commits leaves under a key if it writes the key, or the version that was there
abbrev pub version_after : Key → Option (Option (List ℕ)) → List Commit → Option (Option (List ℕ))
version_after key version commits = fold (λ before commit. option_or (lookup_key commit.writes key) before) version commits

-- the version that the batch of a stamp leaves under a key
abbrev pub version_at : List Batch → Key → ℕ → Option (Option (List ℕ))
version_at [] key stamp = None
version_at (batch ∷ batches) key stamp = if nat_eq batch.stamp stamp then version_after key None batch.commits else version_at batches key stamp

-- what was found is the key's version of the greatest stamp up to this one, or there is none
abbrev pub IsLatest : List (Place × Option (List ℕ)) → Key → ℕ → Option (Option (List ℕ)) → Type 0
IsLatest versions key stamp found = MatchOption found
    ((at : ℕ) → at ≤ stamp → lookup_version versions key at ≡ None)
    (λ row. (at : ℕ) × (at ≤ stamp) × (lookup_version versions key at ≡ Some row) × ((later : ℕ) → at < later → later ≤ stamp → lookup_version versions key later ≡ None))

-- the map has the versions that the batches leave, which follow one another from the stamp on
pub record Indexed (stamp : ℕ) (versions : List (Place × Option (List ℕ))) (batches : List Batch) : Type 0 where
  pub follow : Follow stamp batches
  pub same : (key : Key) (at : ℕ) → lookup_version versions key at ≡ version_at batches key at
