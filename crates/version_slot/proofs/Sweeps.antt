-- The operations of a sweep, from those of its parts.
use Rattle.std.proofs.Common.{◌≡◌, ◌≢◌, ℕ, ◌+◌, ◌/◌, Bool, true, cond, List, [], ◌∷◌, ◌++◌, sym, ◌∙◌, ap, subst, arith}
use Rattle.base.specs.declared.gap.Gap.{Gap}
use Rattle.base.specs.Layout.{Layout, slot_start}
use Rattle.base.specs.Records.{is_in}
use Rattle.pmem.specs.Device.{Device, IsOrderly, flushed, failed}
use Rattle.pmem.specs.Words.{value_of}
use Rattle.pmem.specs.Trace.{Operation, store_op, flush_op, Runs, StopsWithin}
use Rattle.pmem.proofs.OperationEffects.{value-stored_other}
use Rattle.pmem.proofs.Traces.{runs-then, runs-more, stops-one, stops-first, stops-then}
use Rattle.version_slot.specs.Operations.{zero_operations, sweep_operations}

pub zero-stops : (gaps : List Gap) (word value : ℕ) (old new : Device) → is_in gaps value ≡ true → IsOrderly old → IsOrderly new → new ≡ failed old → StopsWithin (zero_operations gaps word value) old new
zero-stops gaps word value old new gap orderly orderly' is =
    subst (λ (b : Bool). StopsWithin (cond b (store_op word 0 ∷ []) []) old new) (sym gap) (stops-one (store_op word 0) old new orderly orderly' is)

-- the other words keep their values
zero-others : (gaps : List Gap) (word value other : ℕ) (old new : Device) → other ≢ word → Runs (zero_operations gaps word value) old new → value_of new other ≡ value_of old other
zero-others gaps word value other old new apart run = grind (arith, value-stored_other) steps 800000

pub stops-begin : (a : Layout) (actor : ℕ) (gaps : List Gap) (slot start : ℕ) (old new : Device) → start ≡ slot_start a slot → StopsWithin (zero_operations gaps start (value_of old start)) old new → StopsWithin (sweep_operations a actor gaps (value_of old) slot) old new
stops-begin a actor gaps slot start old new at stop = grind (arith, stops-first)

module _ (a : Layout) (actor : ℕ) (gaps : List Gap) (slot start line : ℕ) (old one : Device) (at : start ≡ slot_start a slot) (first : Runs (zero_operations gaps start (value_of old start)) old one) where
  abbrev begins : List Operation
  begins = zero_operations gaps (slot_start a slot) (value_of old (slot_start a slot))

  abbrev ends : List Operation
  ends = zero_operations gaps (slot_start a slot + 1) (value_of old (slot_start a slot + 1))

  begun : Runs begins old one
  begun = subst (λ (k : ℕ). Runs (zero_operations gaps k (value_of old k)) old one) at first

  same : value_of one (start + 1) ≡ value_of old (start + 1)
  same = zero-others gaps start (value_of old start) (start + 1) old one (λ e. omega (arith, e)) first

  -- the end's operations go by the value that it has after the begin's
  end-are : zero_operations gaps (start + 1) (value_of one (start + 1)) ≡ ends
  end-are = ap (zero_operations gaps (start + 1)) same ∙ ap (λ (k : ℕ). zero_operations gaps (k + 1) (value_of old (k + 1))) at

  pub stops-end : (new : Device) → StopsWithin (zero_operations gaps (start + 1) (value_of one (start + 1))) one new → StopsWithin (sweep_operations a actor gaps (value_of old) slot) old new
  stops-end new stop = stops-first (flush_op actor (slot_start a slot / 8) ∷ []) (stops-then begun (subst (λ (ops : List Operation). StopsWithin ops one new) end-are stop))

  module _ (two : Device) (second : Runs (zero_operations gaps (start + 1) (value_of one (start + 1))) one two) (new : Device) (orderly : IsOrderly two) (orderly' : IsOrderly new) where
    both : Runs (begins ++ ends) old two
    both = runs-then begun (subst (λ (ops : List Operation). Runs ops one two) end-are second)

    pub stops-flush : new ≡ failed two → StopsWithin (sweep_operations a actor gaps (value_of old) slot) old new
    stops-flush is = stops-then both (stops-one (flush_op actor (slot_start a slot / 8)) two new orderly orderly' is)

    pub runs-sweep : line ≡ slot_start a slot / 8 → new ≡ flushed actor line two → Runs (sweep_operations a actor gaps (value_of old) slot) old new
    runs-sweep line_is is = runs-more (begins ++ ends) (flush_op actor (slot_start a slot / 8)) old two new orderly' (is ∙ ap (λ (l : ℕ). flushed actor l two) line_is) both
