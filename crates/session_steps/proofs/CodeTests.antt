-- What the code's tests say.
use Rattle.std.proofs.Common.{◌≡◌, ◌≢◌, ◌↔◌, ℕ, zero, suc, ◌<◌, Bool, true, false, List, [], ◌∷◌, ◌++◌, map, refl, sym, arith, nat_lt, IsTrue, length}
use Rattle.std.specs.Prelude.{Option, Some, None, find, slice_get, All}
use Rattle.std.proofs.lemmas.Bool.Decides.{nat_tests}
use Rattle.txn.specs.declared.drawn.DrawnCommit.{DrawnCommit}
use Rattle.snapshot.specs.Snapshots.{Seen}
use Rattle.txn.specs.declared.transaction.Transaction.{Transaction}
use Rattle.txn.specs.declared.transaction.Transaction.TheVariants.{Active}
use Rattle.txn.specs.declared.write.Write.{Write}
use Rattle.base.specs.declared.fault.Fault.{Fault}
use Rattle.session_steps.specs.Steps.{IsBarred, is_one_of, bar_of, is_over, is_over_at}
use Rattle.std.proofs.lemmas.List.{append-nil}
use Rattle.std.proofs.lemmas.List.Elements.{All-nil, All-cons}

-- nothing that a search doesn't find passes its test
pub unfound : {X : Type 0} (test : X → Bool) (xs : List X) → find test xs ≡ None → All (λ x. test x ≡ false) xs
unfound test [] none = grind (arith, All-nil) steps 800000
unfound {X} test (x ∷ xs) none = grind (arith, All-cons, unfound test xs) steps 800000

-- what bars a session whose transaction isn't one of these
pub barred : (lets : Transaction → Bool) (o : Option Transaction) (fault : Fault) → is_one_of lets o ≡ false → fault ≡ bar_of o → IsBarred lets o fault
barred lets a fault out is = grind (arith)

pub barred-over : (drawn : List DrawnCommit) (o : Option Transaction) (fault : Fault) → is_over_at drawn o ≡ false → fault ≡ bar_of o → IsBarred (is_over drawn) o fault
barred-over drawn a fault out is = grind (arith)

-- no more are drawn
pub same-drawers : (ds : List DrawnCommit) → (more : List ℕ) × (map (λ (d : DrawnCommit). d.session) ds ≡ map (λ (d : DrawnCommit). d.session) ds ++ more)
same-drawers ds = ([], sym (append-nil (map (λ (d : DrawnCommit). d.session) ds)))

pub nothing-is : (writes : List Write) (b : Bool) → IsTrue b ↔ (writes ≡ []) → b ≡ true → writes ≡ []
nothing-is writes b is told = is.0 told

pub some-is : (writes : List Write) (b : Bool) → IsTrue b ↔ (writes ≡ []) → b ≡ false → writes ≢ []
some-is writes b is told none = let empty : b ≡ true = is.1 none in absurd (cc (empty, told))

-- past the last there is none
pub none-left : {X : Type 0} (xs : List X) (i : ℕ) → slice_get xs i ≡ None → nat_lt i (length xs) ≡ false
none-left {X} xs i none = by (nat_lt i (length xs)) refl
  where
    by : (b : Bool) → nat_lt i (length xs) ≡ b → b ≡ false
    by false is = refl
    by true is = absurd (past xs i none (grind (arith, nat_tests)))
      where
        past : (xs : List X) (i : ℕ) → slice_get xs i ≡ None → i < length xs → ⊥
        past [] i none lt = omega (arith, lt)
        past (x ∷ xs) zero none lt = absurd (cc none)
        past (x ∷ xs) (suc i) none lt = past xs i none (omega (arith, lt))

-- an Active transaction has one snapshot and one list of writes
pub one-active : (t : Option Transaction) (a b : Seen) (ws vs : List Write) → t ≡ Some (Active a ws) → t ≡ Some (Active b vs) → (a ≡ b) × (ws ≡ vs)
one-active t a b ws vs here there = (cc (here, there), cc (here, there))
