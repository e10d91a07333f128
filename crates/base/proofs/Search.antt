-- Searches for the first number that passes a test.
use Rattle.std.proofs.Common.{◌≡◌, ◌⊎◌, inl, inr, ℕ, zero, suc, ◌<◌, Bool, true, false, cond, refl, arith}
use Rattle.std.specs.Prelude.{Some, None}
use Rattle.std.specs.Option.{option_or}
use Rattle.std.proofs.lemmas.Bool.{cases_lt}
use Rattle.base.specs.Search.{first_below}
use Rattle.base.proofs.Options.{or-none, some_if-none}

-- what is below the next number is below this one or is this one
pub cases_below : (k n : ℕ) → k < suc n → (k < n) ⊎ (k ≡ n)
cases_below k n h = elim (cases_lt k n) [ inl less ↦ inl less | inr least ↦ inr (omega (arith, h, least)) ]

-- if no number is found, each one fails the test
pub first_below-none : (n : ℕ) (test : ℕ → Bool) → first_below n test ≡ None → (k : ℕ) → k < n → test k ≡ false
first_below-none zero test e k h = absurd (omega (arith, h))
first_below-none (suc n) test e k h = grind (arith, or-none, cases_below, first_below-none n test, some_if-none)

-- if each number fails the test, none is found
pub first_below-nowhere : (n : ℕ) (test : ℕ → Bool) → ((k : ℕ) → k < n → test k ≡ false) → first_below n test ≡ None
first_below-nowhere zero test each = refl
first_below-nowhere (suc n) test each =
    (λ i. option_or (first_below-nowhere n test (λ k h. each k (omega (arith, h))) i) (cond (each n (omega arith) i) (Some n) None))

-- tests that agree find the same
pub first_below-same : (n : ℕ) (f g : ℕ → Bool) → ((k : ℕ) → k < n → f k ≡ g k) → first_below n f ≡ first_below n g
first_below-same zero f g each = refl
first_below-same (suc n) f g each = grind (arith, first_below-same n f g)

-- the first that passes is the first below any greater bound
pub first_below-found : (n k : ℕ) (test : ℕ → Bool) → k < n → first_below k test ≡ None → test k ≡ true → first_below n test ≡ Some k
first_below-found zero k test h none passes = absurd (omega (arith, h))
first_below-found (suc n) k test h none passes = grind (arith, cases_below, first_below-found n k test)
