-- Commits laid over tables.
use Rattle.std.proofs.Common.{◌≡◌, List, [], ◌∷◌, ◌++◌, refl}
use Rattle.base.specs.declared.key.Key.{Key}
use Rattle.base.specs.Commits.{Commit, Tables, overlaid, laid}

-- those of two lists, one list after the other
pub laid-append : (tables : Tables) (xs ys : List Commit) (key : Key) → laid tables (xs ++ ys) key ≡ laid (laid tables xs) ys key
laid-append tables [] ys key = refl
laid-append tables (x ∷ xs) ys key = laid-append (overlaid x.writes tables) xs ys key
