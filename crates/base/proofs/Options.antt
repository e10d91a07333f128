-- Options: the first of two, and when there is none.
use Rattle.std.proofs.Common.{◌≡◌, ℕ, ◌≤◌, Bool, true, false, List, [], ◌∷◌, cond, not, refl, ◌∙◌, ap, arith, nat_lt}
use Rattle.std.specs.Prelude.{Option, Some, None, is_some, unwrap_or}
use Rattle.std.specs.Option.{option_or, option_map}
use Rattle.std.proofs.lemmas.Bool.{ltb-false}
use Rattle.base.specs.Search.{first_of, some_if}

-- neither of two is there
pub or-none : {X : Type 0} (a b : Option X) → option_or a b ≡ None → (a ≡ None) × (b ≡ None)
or-none a b e = grind (arith)

-- none of a list is there
abbrev pub AllNone : {X : Type 0} → List (Option X) → Type 0
AllNone [] = Unit {0}
AllNone (x ∷ xs) = (x ≡ None) × AllNone xs

pub all_none : {X : Type 0} (xs : List (Option X)) → first_of xs ≡ None → AllNone xs
all_none [] e = tt
all_none (x ∷ xs) e = let both = or-none x (first_of xs) e in (both.0, all_none xs both.1)

pub none_first : {X : Type 0} (xs : List (Option X)) → AllNone xs → first_of xs ≡ None
none_first [] all = refl
none_first (x ∷ xs) all = ap (λ a. option_or a (first_of xs)) all.0 ∙ none_first xs all.1

pub option_or-none : {X : Type 0} (a : Option X) → option_or a None ≡ a
option_or-none a = grind (arith)

pub map-none : {X Y : Type 0} (f : X → Y) (o : Option X) → option_map f o ≡ None → o ≡ None
map-none f a e = grind (arith)

pub is_some-none : {X : Type 0} (o : Option X) → is_some o ≡ false → o ≡ None
is_some-none a e = grind (arith)

pub some_if-none : {X : Type 0} (b : Bool) (x : X) → some_if b x ≡ None → b ≡ false
some_if-none a x e = grind (arith)

pub some_if_not-none : {X : Type 0} (b : Bool) (x : X) → some_if (not b) x ≡ None → b ≡ true
some_if_not-none a x e = grind (arith)

-- a place that is there, or the length
pub or_length : (place len : ℕ) → place ≤ len → unwrap_or (cond (nat_lt place len) (Some place) None) len ≡ place
or_length place len le = grind (arith, ltb-false)
