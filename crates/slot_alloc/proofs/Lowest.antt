-- The lowest number that passes a test, and the lowest free slot.
use Rattle.std.proofs.Common.{◌≡◌, inl, inr, ℕ, zero, suc, ◌<◌, Bool, false, cond, List, length, Option, Some, None, sym, ◌∙◌, arith}
use Rattle.std.specs.Option.{option_or}
use Rattle.std.proofs.lemmas.Bool.{cases_lt}
use Rattle.std.proofs.lemmas.List.{get_or_past}
use Rattle.base.specs.Search.{first_below}
use Rattle.base.proofs.Search.{first_below-nowhere, first_below-found}
use Rattle.number_set.specs.Numbers.{IsFirstFrom, IsNoneFrom}
use Rattle.slot_alloc.specs.Free.{is_free, lowest_free}

-- the slot is below the bound
below_by : (n slot : ℕ) (o : Option ℕ) (b : Bool) → ((k : ℕ) → o ≡ Some k → k < n) → option_or o (cond b (Some n) None) ≡ Some slot → slot < suc n
below_by n slot a b within e = grind (arith)

pub lowest_below : (n slot : ℕ) (test : ℕ → Bool) → first_below n test ≡ Some slot → slot < n
lowest_below zero slot test is = absurd (cc)
lowest_below (suc n) slot test is = below_by n slot (first_below n test) (test n) (λ k at. lowest_below n k test at) is

-- ---- free slots

pub lowest-at : (free : List Bool) (slot : ℕ) → IsFirstFrom free 0 slot → lowest_free free ≡ Some slot
lowest-at free slot first =
    let inside : slot < length free = elim (cases_lt slot (length free)) [
      | inl below ↦ below
      | inr past ↦ absurd (cc (sym first.here ∙ get_or_past free slot false past))
    ] in
    first_below-found (length free) slot (is_free free) inside (first_below-nowhere slot (is_free free) (λ k lt. first.before k (omega arith) lt)) first.here

pub lowest-nowhere : (free : List Bool) → IsNoneFrom free 0 → lowest_free free ≡ None
lowest-nowhere free none = first_below-nowhere (length free) (is_free free) (λ k lt. none k (omega arith))
