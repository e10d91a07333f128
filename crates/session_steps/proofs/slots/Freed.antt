-- Slots are freed.
use Rattle.std.proofs.Common.{◌≡◌, ◌≢◌, ◌⊎◌, inl, inr, ℕ, zero, suc, ◌+◌, ◌<◌, Bool, true, false, List, [], ◌∷◌, ◌++◌, length, set, take, sym, ◌∙◌, ap, subst, arith, Contains}
use Rattle.std.specs.Prelude.{Some, None, slice_get}
use Rattle.std.proofs.lemmas.Bool.{cases_eq, cases_lt, and_parts}
use Rattle.std.proofs.lemmas.Bool.Decides.{nat_tests}
use Rattle.std.proofs.lemmas.List.{get_or-set_same, get_or-set_other, length-set, take_more}
use Rattle.std.proofs.lemmas.List.Elements.{Contains-append_left, Contains-push, Contains-push_cases}
use Rattle.std.proofs.lemmas.Option.{slice_get-get_or, slice_get_past, get_or_from_slice_get}
use Rattle.txn.specs.declared.write.Write.{Write}
use Rattle.session_steps.specs.Giving.{fits_slot, fits_writes, ReleasesSlots}

-- ---- which slots there are

pub fits-at : (slots : ℕ) (writes : List Write) (i : ℕ) (write : Write) → fits_writes slots writes ≡ true → slice_get writes i ≡ Some write → fits_slot slots write.slot ≡ true
fits-at slots [] i write all at = absurd (cc at)
fits-at slots (first ∷ writes) zero write all at = grind (arith, and_parts)
fits-at slots (first ∷ writes) (suc i) write all at = fits-at slots writes i write (and_parts (fits_slot slots first.slot) (fits_writes slots writes) all).1 at

pub fits-own : (slots : ℕ) (write : Write) (slot : ℕ) → fits_slot slots write.slot ≡ true → write.slot ≡ Some slot → slot < slots
fits-own slots write slot fits is = grind (arith, nat_tests)

-- ---- one slot

pub given-same : (free : List Bool) (slot : ℕ) → slot < length free → slice_get (set free slot true) slot ≡ Some true
given-same free slot lt =
    slice_get-get_or (set free slot true) slot false (omega (arith, length-set free slot true, lt)) ∙ ap (λ (b : Bool). Some b) (get_or-set_same free slot true false lt)

pub given-other : (free : List Bool) (slot other : ℕ) → other ≢ slot → slice_get (set free slot true) other ≡ slice_get free other
given-other free slot other apart = grind (arith, cases_lt other (length free), slice_get-get_or, length-set free slot true, get_or-set_other free slot other true false apart, slice_get_past)

-- ---- the slots of one write after the other

-- a write without a slot
pub gives-no_slot : (writes : List Write) (write : Write) (old new : List Bool) → write.slot ≡ None → ReleasesSlots writes old new → ReleasesSlots (writes ++ write ∷ []) old new
gives-no_slot writes write old new none gives = record {
  size = gives.size;
  given = λ other slot in_set has. by other slot has (Contains-push_cases writes write other in_set);
  others = λ slot no. gives.others slot (λ other in_set has. no other (Contains-append_left writes (write ∷ []) other in_set) has);
}
  where
    by : (other : Write) (slot : ℕ) → other.slot ≡ Some slot → Contains writes other ⊎ (write ≡ other) → slice_get new slot ≡ Some true
    by other slot has (inl in_set) = gives.given other slot in_set has
    by other slot has (inr same) = grind (arith)

-- a write with one
pub gives-slot : (writes : List Write) (write : Write) (slot : ℕ) (old new : List Bool) → write.slot ≡ Some slot → slot < length old → ReleasesSlots writes old new → ReleasesSlots (writes ++ write ∷ []) old (set new slot true)
gives-slot writes write slot old new own lt gives = record {
  size = length-set new slot true ∙ gives.size;
  given = λ other at in_set has. by other at has (Contains-push_cases writes write other in_set) (cases_eq at slot);
  others = λ at no.
      given-other new slot at (λ is. no write (Contains-push writes write) (own ∙ ap (λ (s : ℕ). Some s) (sym is)))
      ∙ gives.others at (λ other in_set has. no other (Contains-append_left writes (write ∷ []) other in_set) has);
}
  where
    within : slot < length new
    within = omega (arith, lt, gives.size)

    by : (other : Write) (at : ℕ) → other.slot ≡ Some at → Contains writes other ⊎ (write ≡ other) → (at ≡ slot) ⊎ (at ≢ slot) → slice_get (set new slot true) at ≡ Some true
    by other at has either (inl is) = ap (slice_get (set new slot true)) is ∙ given-same new slot within
    by other at has (inl in_set) (inr apart) = given-other new slot at apart ∙ gives.given other at in_set has
    by other at has (inr same) (inr apart) = grind (arith)

-- ---- the next of the writes

module _ (items : List Write) (i : ℕ) (write : Write) (old now : List Bool) (lt : i < length items) (at : slice_get items i ≡ Some write) (gives : ReleasesSlots (take i items) old now) where
  one_more : take (i + 1) items ≡ take i items ++ write ∷ []
  one_more = take_more items i write lt ∙ ap (λ (w : Write). take i items ++ w ∷ []) (get_or_from_slice_get items i write write at)

  pub gives-next_none : write.slot ≡ None → ReleasesSlots (take (i + 1) items) old now
  gives-next_none none = subst (λ (ws : List Write). ReleasesSlots ws old now) (sym one_more) (gives-no_slot (take i items) write old now none gives)

  pub gives-next_slot : (slot : ℕ) → write.slot ≡ Some slot → slot < length old → ReleasesSlots (take (i + 1) items) old (set now slot true)
  gives-next_slot slot own below = subst (λ (ws : List Write). ReleasesSlots ws old (set now slot true)) (sym one_more) (gives-slot (take i items) write slot old now own below gives)
