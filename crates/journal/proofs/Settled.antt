-- Lists of numbers that are merely known to be equal.
use Rattle.std.proofs.Common.{◌≡◌, ◌≢◌, ◌⊎◌, inl, inr, ℕ, List, [], ◌∷◌, length, get_or, refl, ap, arith}
use Rattle.std.proofs.Math.Logic.{∥∥₁_elim, ∥∥₁_map}
use Rattle.std.proofs.Math.Nat.{ℕ_set}
use Rattle.std.proofs.lemmas.List.{ext_get_or}

abbrev head : List ℕ → ℕ
head [] = 0
head (x ∷ xs) = x

abbrev tail : List ℕ → List ℕ
tail [] = []
tail (x ∷ xs) = xs

pub equal_out : (a b : List ℕ) → ∥ a ≡ b ∥₁ → a ≡ b
equal_out a b some =
    ext_get_or 0 a b (∥∥₁_elim some (ℕ_set _ _) (λ is. ap (λ (l : List ℕ). length l) is)) (λ i lt. ∥∥₁_elim some (ℕ_set _ _) (λ is. ap (λ (l : List ℕ). get_or l i 0) is))

-- they are equal, or they aren't
pub cases_list : (a b : List ℕ) → (a ≡ b) ⊎ (a ≢ b)
cases_list [] [] = inl refl
cases_list [] (y ∷ b) = inr (λ e. omega (arith, ap (λ (l : List ℕ). length l) e))
cases_list (x ∷ a) [] = inr (λ e. omega (arith, ap (λ (l : List ℕ). length l) e))
cases_list (x ∷ a) (y ∷ b) = grind (arith, cases_list a b)

pub either_out : (image a b : List ℕ) → ∥ (image ≡ a) ⊎ (image ≡ b) ∥₁ → (image ≡ a) ⊎ (image ≡ b)
either_out image a b some = elim (cases_list image a) [
  | inl is ↦ inl is
  | inr differ ↦ inr (equal_out image b (∥∥₁_map some (λ e. other differ e)))
]
  where
    other : image ≢ a → (image ≡ a) ⊎ (image ≡ b) → image ≡ b
    other differ (inl is) = absurd (differ is)
    other differ (inr is) = is
