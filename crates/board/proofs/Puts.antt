-- What a map has at a key, and what is found there after a change.
use Rattle.std.proofs.Common.{◌≡◌, ℕ, zero, suc, true, false, cond, List, [], ◌∷◌, drop, take, Option, None, if◌then◌else◌, get_or, length, ◌<◌, refl, sym, arith}
use Rattle.std.specs.BTreeMap.{is_at}
use Rattle.std.specs.Map.{lookup}
use Rattle.base.specs.declared.key.Key.{Key}
use Rattle.base.specs.Keys.{key_eq, lookup_key}
use Rattle.base.specs.Commits.{Commit}
use Rattle.base.proofs.KeyOrder.{key_cmp, looked-up}
use Rattle.board.specs.Cells.{after_commits, is_written}

-- a map finds the first entry with the key
pub found : (es : List (Key × List ℕ)) (key : Key) → lookup (is_at (key_cmp key)) es ≡ lookup_key es key
found es key = sym (looked-up es key)

-- what is found after a change of one key
pub changed_at : (es fs : List (Key × List ℕ)) (key : Key) (row : Option (List ℕ))
    → ((q : Key) → lookup (is_at (key_cmp q)) fs ≡ cond (is_at (key_cmp key) q) row (lookup (is_at (key_cmp q)) es))
    → (k : Key) → lookup_key fs k ≡ (if key_eq key k then row else lookup_key es k)
changed_at es fs key row h k = grind (arith, found)

-- a key that isn't written isn't written by the rest
pub none_on : {X : Type 0} (xs : List (Key × X)) (i : ℕ) (k : Key) → lookup_key xs k ≡ None → lookup_key (drop i xs) k ≡ None
none_on xs zero k none = none
none_on [] (suc i) k none = none
none_on {X} (x ∷ xs) (suc i) k none = grind (arith, none_on xs i k)

-- commits that don't write a key leave its row
pub unwritten : (k : Key) (row : Option (List ℕ)) (commits : List Commit) → is_written k commits ≡ false → after_commits k row commits ≡ row
unwritten k row [] h = refl
unwritten k row (c ∷ cs) h = grind (arith, unwritten k row cs)

-- commits that write a key settle its row, whatever it was
pub written_alike : (k : Key) (row other : Option (List ℕ)) (commits : List Commit) → is_written k commits ≡ true → after_commits k row commits ≡ after_commits k other commits
written_alike k row other [] h = absurd (cc h)
written_alike k row other (c ∷ cs) h = grind (arith, written_alike k row other cs)

-- rows that differ only at written keys are alike once the commits are laid over them
pub laid_alike : (k : Key) (row other : Option (List ℕ)) (commits : List Commit) → (is_written k commits ≡ false → other ≡ row) → after_commits k other commits ≡ after_commits k row commits
laid_alike k row other commits same = grind (arith, written_alike)

-- a key that the commits don't write isn't written by the first of them
pub unwritten_first : (k : Key) (commits : List Commit) (i : ℕ) → is_written k commits ≡ false → is_written k (take i commits) ≡ false
unwritten_first k commits zero h = refl
unwritten_first k [] (suc i) h = refl
unwritten_first k (c ∷ cs) (suc i) h = grind (arith, unwritten_first k cs i)

-- nor by any one of them
pub unwritten_at : (k : Key) (commits : List Commit) (i : ℕ) (c : Commit) → is_written k commits ≡ false → c ≡ get_or commits i c → i < length commits → lookup_key c.writes k ≡ None
unwritten_at k [] i c h at lt = absurd (omega (arith, lt))
unwritten_at k (x ∷ xs) zero c h at lt = grind (arith)
unwritten_at k (x ∷ xs) (suc i) c h at lt = grind (arith, unwritten_at k xs i c)
