-- Commits by their places in a list, and in one list behind another.
use Rattle.std.proofs.Common.{◌≡◌, ◌⊎◌, inl, inr, ℕ, zero, suc, ◌+◌, ◌<◌, Bool, true, false, cond, List, [], ◌∷◌, ◌++◌, length, take, refl, sym, ◌∙◌, ap, arith, Some, slice_get}
use Rattle.std.specs.Prelude.{fold}
use Rattle.std.specs.List.{list_all}
use Rattle.std.proofs.lemmas.Bool.{and_parts, and_from}
use Rattle.base.specs.declared.key.Key.{Key}
use Rattle.base.specs.Commits.{Commit, writes_key}

-- if the first `to` commits satisfy p, then so does each one at a place among them
pub front-fact : (p : Commit → Bool) (cs : List Commit) (to place : ℕ) (c : Commit) → list_all p (take to cs) ≡ true → place < to → slice_get cs place ≡ Some c → p c ≡ true
front-fact p [] to place c all lt at = absurd (cc at)
front-fact p (x ∷ cs) zero place c all lt at = absurd (omega (arith, lt))
front-fact p (x ∷ cs) (suc to) zero c all lt at = let same : x ≡ c = cc at in ap p (sym same) ∙ (and_parts (p x) (list_all p (take to cs)) all).0
front-fact p (x ∷ cs) (suc to) (suc place) c all lt at = front-fact p cs to place c (and_parts (p x) (list_all p (take to cs)) all).1 (omega (arith, lt)) at

-- what the one at each place has, all have
pub all-placed : (p : Commit → Bool) (cs : List Commit) → ((i : ℕ) (c : Commit) → slice_get cs i ≡ Some c → p c ≡ true) → list_all p cs ≡ true
all-placed p [] each = refl
all-placed p (c ∷ cs) each = and_from (p c) (list_all p cs) (each 0 c refl) (all-placed p cs (λ i d at. each (suc i) d at))

-- one commit more
pub take-place : (cs : List Commit) (n : ℕ) (c : Commit) → slice_get cs n ≡ Some c → take (suc n) cs ≡ take n cs ++ c ∷ []
take-place [] n c at = absurd (cc at)
take-place (x ∷ cs) zero c at = let same : x ≡ c = cc at in ap (λ (y : Commit). y ∷ []) same
take-place (x ∷ cs) (suc n) c at = ap (λ (ys : List Commit). x ∷ ys) (take-place cs n c at)

-- it is in the one list or in the other
pub place-append : (xs ys : List Commit) (i : ℕ) (c : Commit) → slice_get (xs ++ ys) i ≡ Some c → ((i < length xs) × (slice_get xs i ≡ Some c)) ⊎ ((j : ℕ) × (i ≡ length xs + j) × (slice_get ys j ≡ Some c))
place-append [] ys i c at = inr (i, omega arith, at)
place-append (x ∷ xs) ys zero c at = inl (omega arith, at)
place-append (x ∷ xs) ys (suc i) c at = grind (arith, place-append xs ys i c at)

pub at-more : (xs ys : List Commit) (j : ℕ) → slice_get (xs ++ ys) (length xs + j) ≡ slice_get ys j
at-more [] ys j = let same : length {A = Commit} [] + j ≡ j = omega arith in ap (slice_get ys) same
at-more (x ∷ xs) ys j = let same : length (x ∷ xs) + j ≡ suc (length xs + j) = omega arith in ap (slice_get (x ∷ (xs ++ ys))) same ∙ at-more xs ys j

pub at-front : (xs ys : List Commit) (i : ℕ) (c : Commit) → slice_get xs i ≡ Some c → slice_get (xs ++ ys) i ≡ Some c
at-front [] ys i c at = absurd (cc at)
at-front (x ∷ xs) ys zero c at = at
at-front (x ∷ xs) ys (suc i) c at = at-front xs ys i c at

-- one of the first j commits
pub place-taken : (ys : List Commit) (j i : ℕ) (c : Commit) → slice_get (take j ys) i ≡ Some c → (i < j) × (slice_get ys i ≡ Some c)
place-taken [] zero i c at = absurd (cc at)
place-taken [] (suc j) i c at = absurd (cc at)
place-taken (y ∷ ys) zero i c at = absurd (cc at)
place-taken (y ∷ ys) (suc j) zero c at = (omega arith, at)
place-taken (y ∷ ys) (suc j) (suc i) c at = let rest = place-taken ys j i c at in (omega (arith, rest.0), rest.1)

-- commits that don't write the key leave its last writer
pub none-writer : (key : Key) (last : ℕ) (ys : List Commit) → ((i : ℕ) (c : Commit) → slice_get ys i ≡ Some c → writes_key key c ≡ false)
    → fold (λ (t : ℕ) (commit : Commit). cond (writes_key key commit) commit.timestamp t) last ys ≡ last
none-writer key last [] each = refl
none-writer key last (y ∷ ys) each =
    ap (λ (b : Bool). fold (λ (t : ℕ) (commit : Commit). cond (writes_key key commit) commit.timestamp t) (cond b y.timestamp last) ys) (each 0 y refl)
    ∙ none-writer key last ys (λ i c at. each (suc i) c at)
