-- The next slot that was replaced.
use Rattle.std.proofs.Common.{◌≡◌, ◌⊎◌, inl, inr, ℕ, ◌<◌, ◌≤◌, Bool, true, false, List, length, sym, ◌∙◌, ap, get_or, arith}
use Rattle.std.specs.Prelude.{Option, Some, unwrap_or, slice_get}
use Rattle.std.proofs.lemmas.Bool.{cases_lt, true≢false}
use Rattle.std.proofs.lemmas.Option.{slice_get-get_or, slice_get_past, get_or_from_slice_get, unwrap_or-slice_get}
use Rattle.number_set.specs.Numbers.{IsFirstFrom, IsNoneFrom}

module _ (slots : List Bool) (from : ℕ) where
  -- a slot that is in is there
  within : (slot : ℕ) → get_or slots slot false ≡ true → slot < length slots
  within slot here = by (cases_lt slot (length slots))
    where
      by : (slot < length slots) ⊎ (length slots ≤ slot) → slot < length slots
      by (inl lt) = lt
      by (inr past) = absurd (true≢false (sym here ∙ sym (unwrap_or-slice_get slots slot false) ∙ ap (λ (o : Option Bool). unwrap_or o false) (slice_get_past slots slot past)))

  pub first-before : (next : ℕ) → IsFirstFrom slots from next → (other : ℕ) → from ≤ other → other < next → slice_get slots other ≡ Some false
  first-before next first other low lt =
      slice_get-get_or slots other false (omega (arith, lt, within next first.here)) ∙ ap (λ (b : Bool). Some b) (first.before other low lt)

  pub first-here : (next : ℕ) → IsFirstFrom slots from next → slice_get slots next ≡ Some false → ⊥
  first-here next first is = absurd (true≢false (sym first.here ∙ get_or_from_slice_get slots next false false is))

  pub none-before : (next : ℕ) → next ≤ length slots → IsNoneFrom slots from → (other : ℕ) → from ≤ other → other < next → slice_get slots other ≡ Some false
  none-before next within none other low lt = slice_get-get_or slots other false (omega (arith, lt, within)) ∙ ap (λ (b : Bool). Some b) (none other low)

  pub past-here : (next : ℕ) → length slots ≤ next → slice_get slots next ≡ Some false → ⊥
  past-here next past is = cc (sym (slice_get_past slots next past) ∙ is)
