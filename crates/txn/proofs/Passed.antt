-- How many elements pass a test.
use Rattle.std.proofs.Common.{◌≡◌, ℕ, zero, suc, ◌<◌, ◌≤◌, Bool, true, List, [], ◌∷◌, length, map, take, get_or, filter, refl, arith}
use Rattle.std.proofs.lemmas.List.{length-map}
use Rattle.base.specs.Choosing.{is_passed, passed_over}
use Rattle.txn.specs.declared.drawn.DrawnCommit.{DrawnCommit}
use Rattle.txn.specs.DrawnCommits.{plain_drawn}

pub filter-map : {X Y : Type 0} (f : X → Y) (p : Y → Bool) (xs : List X) → filter p (map f xs) ≡ map f (filter (λ x. p (f x)) xs)
filter-map f p [] = refl
filter-map f p (x ∷ xs) = grind (arith, filter-map f p xs) steps 800000

-- how many commits a record passes over
pub length-passed : (reach : ℕ) (ds : List DrawnCommit) → length (passed_over reach (map plain_drawn ds)) ≡ length (filter (λ (d : DrawnCommit). is_passed reach (plain_drawn d)) ds)
length-passed reach ds = grind (arith, length-map, filter-map)

-- fewer of the elements before one that passes the test pass it than of all
pub fewer-before : {X : Type 0} (p : X → Bool) (xs : List X) (i : ℕ) (x : X) → i < length xs → x ≡ get_or xs i x → p x ≡ true → length (filter p (take i xs)) < length (filter p xs)
fewer-before p [] i x within at passes = absurd (omega (arith, within))
fewer-before p (y ∷ ys) zero x within at passes = grind (arith)
fewer-before p (y ∷ ys) (suc i) x within at passes = grind (arith, fewer-before p ys i x)

-- no more elements pass a test than there are
pub few-filtered : {X : Type 0} (p : X → Bool) (xs : List X) → length (filter p xs) ≤ length xs
few-filtered p [] = grind (arith) steps 800000
few-filtered p (x ∷ xs) = grind (arith, few-filtered p xs) steps 800000

-- nor does a record pass over more commits
pub few-passed : (reach : ℕ) (ds : List DrawnCommit) → length (passed_over reach (map plain_drawn ds)) ≤ length ds
few-passed reach ds = omega (arith, length-passed reach ds, few-filtered (λ (d : DrawnCommit). is_passed reach (plain_drawn d)) ds)
