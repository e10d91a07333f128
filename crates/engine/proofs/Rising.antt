-- Places that rise.
use Rattle.std.proofs.Common.{◌≡◌, ℕ, ◌+◌, ◌≤◌, List, [], ◌∷◌, ◌++◌, refl, subst, arith}
use Rattle.std.specs.Prelude.{true, nat_le, Option, Some, IfSome}
use Rattle.std.proofs.lemmas.Bool.Decides.{nat_tests}
use Rattle.std.proofs.lemmas.Bool.{and_from, and_parts}
use Rattle.audited.specs.declared.receipt.Receipt.{Receipt}
use Rattle.engine.specs.Receipts.{rises, floor_of}

pub floor_of-append : (least : ℕ) (rs : List Receipt) (r : Receipt) → floor_of least (rs ++ r ∷ []) ≡ r.place + 1
floor_of-append least [] r = refl
floor_of-append least (x ∷ rs) r = floor_of-append (x.place + 1) rs r

pub rises-append : (least : ℕ) (rs : List Receipt) (r : Receipt) → rises least rs ≡ true → floor_of least rs ≤ r.place → rises least (rs ++ r ∷ []) ≡ true
rises-append least [] r h le = and_from (nat_le least r.place) true (grind (arith, nat_tests)) refl
rises-append least (x ∷ rs) r h le =
    and_from (nat_le least x.place) (rises (x.place + 1) (rs ++ r ∷ [])) (and_parts (nat_le least x.place) (rises (x.place + 1) rs) h).0
    (rises-append (x.place + 1) rs r (and_parts (nat_le least x.place) (rises (x.place + 1) rs) h).1 le)

pub some_is : {A : Type 0} (P : A → Type 0) (o : Option A) (x : A) → IfSome o P → o ≡ Some x → P x
some_is {A} P o x p is = subst (λ (a : Option A). IfSome a P) is p
