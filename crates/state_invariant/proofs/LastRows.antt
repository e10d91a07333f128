-- The last row that commits wrote at a key.
use Rattle.std.proofs.Common.{◌≡◌, ℕ, zero, suc, ◌≤◌, Bool, true, false, cond, List, [], ◌∷◌, length, take, refl, ◌∙◌, ap, arith, Option, Some, None, slice_get}
use Rattle.std.specs.Prelude.{is_some, fold}
use Rattle.std.specs.List.{list_all}
use Rattle.std.proofs.lemmas.List.Sums.{fold-append}
use Rattle.base.specs.declared.key.Key.{Key}
use Rattle.base.specs.Commits.{Commit, after, writes_key, last_writer}
use Rattle.state_invariant.specs.Kept.{row_in}
use Rattle.state_invariant.specs.Links.{last_row}
use Rattle.state_invariant.proofs.Log.{place-within, writer-place, after-place}
use Rattle.state_invariant.proofs.Places.{take-place}

-- ---- commits that write no row there

rowless : (key : Key) (c : Commit) → writes_key key c ≡ false → is_some (row_in c.writes key) ≡ false
rowless key c none = grind arith

pub none-row : (key : Key) (last : Option ℕ) (ys : List Commit) → ((i : ℕ) (c : Commit) → slice_get ys i ≡ Some c → writes_key key c ≡ false)
    → fold (λ (last : Option ℕ) (commit : Commit). cond (is_some (row_in commit.writes key)) (Some commit.timestamp) last) last ys ≡ last
none-row key last [] each = refl
none-row key last (y ∷ ys) each =
    ap (λ (b : Bool). fold (λ (last : Option ℕ) (commit : Commit). cond (is_some (row_in commit.writes key)) (Some commit.timestamp) last) (cond b (Some y.timestamp) last) ys) (rowless key y (each 0 y refl))
    ∙ none-row key last ys (λ i c at. each (suc i) c at)

-- what all timestamps have, that of the last row has
pub row-all : (p : ℕ → Bool) (key : Key) (s : Option ℕ) (cs : List Commit) → list_all (λ c. p c.timestamp) cs ≡ true → ((t : ℕ) → s ≡ Some t → p t ≡ true)
    → (t : ℕ) → fold (λ (last : Option ℕ) (commit : Commit). cond (is_some (row_in commit.writes key)) (Some commit.timestamp) last) s cs ≡ Some t → p t ≡ true
row-all p key s [] all here t e = here t e
row-all p key s (c ∷ cs) all here t e = grind (arith, row-all p key (cond (is_some (row_in c.writes key)) (Some c.timestamp) s) cs)

-- ---- one commit more

pub row-place : (cs : List Commit) (n : ℕ) (c : Commit) (key : Key) → slice_get cs n ≡ Some c → last_row (take (suc n) cs) key ≡ cond (is_some (row_in c.writes key)) (Some c.timestamp) (last_row (take n cs) key)
row-place cs n c key at = ap (λ (xs : List Commit). last_row xs key) (take-place cs n c at) ∙ fold-append (λ (last : Option ℕ) (commit : Commit). cond (is_some (row_in commit.writes key)) (Some commit.timestamp) last) None (take n cs) (c ∷ [])

-- if a row is there, its commit is the last that wrote one
pub row-there : (cs : List Commit) (n : ℕ) (key : Key) (row : List ℕ) → n ≤ length cs → after (take n cs) key ≡ Some row → last_row (take n cs) key ≡ Some (last_writer (take n cs) key)
row-there cs zero key row within there = absurd (cc there)
row-there cs (suc n) key row within there = on (λ was. row-there cs n key row (omega (arith, within)) was) (place-within cs n (omega (arith, within)))
  where
    on : (after (take n cs) key ≡ Some row → last_row (take n cs) key ≡ Some (last_writer (take n cs) key)) → (c : Commit) × (slice_get cs n ≡ Some c) → last_row (take (suc n) cs) key ≡ Some (last_writer (take (suc n) cs) key)
    on before (c, at) = grind (arith, after-place cs n c key at, row-place cs n c key at, writer-place cs n c key at)
