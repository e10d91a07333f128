-- Tries, one after the other.
use Rattle.std.proofs.Common.{◌≡◌, ℕ, suc, ◌+◌, ◌-◌, ◌≤◌, subst, arith}
use Rattle.std.specs.Prelude.{Option, Result}
use Rattle.base.specs.declared.key.Key.{Key}
use Rattle.store.specs.declared.error.StoreError.{StoreError}
use Rattle.store.specs.declared.store.Attempt.{Attempt}
use Rattle.store.specs.Trying.{TriesInVain, MeetsConflict, EndsTry}

-- one more, counted from 1
pub tries-more : {F X T : Type 0} (step : F → X → Result T StoreError → X → F → Type 0) (session_of : X → ℕ) (i : ℕ) (old mid new : F) (key : Key)
    → 1 ≤ i → TriesInVain step session_of (i - 1) old mid → MeetsConflict step session_of mid key new → TriesInVain step session_of (i + 1 - 1) old new
tries-more step session_of i old mid new key from tries meets =
    let is : suc (i - 1) ≡ i + 1 - 1 = omega (arith, from) in
    subst (λ (n : ℕ). TriesInVain step session_of n old new) is (mid, key, tries, meets)

pub ended-conflict : {F X T : Type 0} (step : F → X → Result T StoreError → X → F → Type 0) (session_of : X → ℕ) (old new : F) (attempt : Attempt T (Option ℕ)) (key : Key)
    → attempt ≡ Attempt.Conflict key → EndsTry step session_of old attempt new → MeetsConflict step session_of old key new
ended-conflict {F} {X} {T} step session_of old new attempt key is ends = subst (λ (a : Attempt T (Option ℕ)). EndsTry step session_of old a new) is ends
