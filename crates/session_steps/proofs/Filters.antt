-- The elements of a list that pass a test.
use Rattle.std.proofs.Common.{◌≡◌, ℕ, zero, suc, ◌<◌, Bool, true, false, ◌&&◌, ◌||◌, not, cond, List, [], ◌∷◌, length, filter, refl, ap, arith}
use Rattle.std.specs.Prelude.{slice_index_or}
use Rattle.std.specs.List.{list_any}

pub filter-whole : {X : Type 0} (xs : List X) → filter (λ x. true) xs ≡ xs
filter-whole [] = refl
filter-whole (x ∷ xs) = ap (λ ys. x ∷ ys) (filter-whole xs)

-- an element that passes is in the whole list
pub filter-at : {X : Type 0} (p : X → Bool) (xs : List X) (k : ℕ) (d : X) → k < length (filter p xs) → (j : ℕ) × (j < length xs) × (slice_index_or (filter p xs) k d ≡ slice_index_or xs j d) × (p (slice_index_or (filter p xs) k d) ≡ true)
filter-at p [] k d lt = absurd (omega (arith, lt))
filter-at p (x ∷ xs) k d lt = by (p x) refl (filter-at p xs) k lt
  where
    by : (b : Bool) → p x ≡ b → ((k : ℕ) (d : _) → k < length (filter p xs) → (j : ℕ) × (j < length xs) × (slice_index_or (filter p xs) k d ≡ slice_index_or xs j d) × (p (slice_index_or (filter p xs) k d) ≡ true))
        → (k : ℕ) → k < length (cond b (x ∷ filter p xs) (filter p xs))
        → (j : ℕ) × (j < length (x ∷ xs)) × (slice_index_or (cond b (x ∷ filter p xs) (filter p xs)) k d ≡ slice_index_or (x ∷ xs) j d) × (p (slice_index_or (cond b (x ∷ filter p xs) (filter p xs)) k d) ≡ true)
    by true is rest zero lt = (0, omega arith, refl, is)
    by true is rest (suc k) lt = let found = rest k d (omega (arith, lt)) in (suc found.0, omega (arith, found.1), found.2, found.3)
    by false is rest k lt = let found = rest k d lt in (suc found.0, omega (arith, found.1), found.2, found.3)

pub any-filter : {X : Type 0} (p r : X → Bool) (xs : List X) → list_any (λ x. p x && r x) xs ≡ list_any p (filter r xs)
any-filter p r [] = refl
any-filter p r (x ∷ xs) = grind (arith, any-filter p r xs) steps 800000

-- some element has it exactly if one of those that pass has it, or one of the others
pub any-split : {X : Type 0} (p r : X → Bool) (xs : List X) → list_any p xs ≡ (list_any p (filter r xs) || list_any p (filter (λ x. not (r x)) xs))
any-split p r [] = refl
any-split p r (x ∷ xs) = grind (arith, any-split p r xs) steps 800000
