-- The lines that a draw puts into the dirty table are those that its commit touches.
use Rattle.std.proofs.Common.{◌≡◌, ℕ, zero, suc, ◌+◌, ◌<◌, ◌≤◌, Bool, true, ◌||◌, List, [], ◌∷◌, refl, ◌∙◌, ap, arith, Contains, length, get_or}
use Rattle.std.specs.Prelude.{All}
use Rattle.std.specs.List.{list_any, flat_map, range_with_len}
use Rattle.std.proofs.lemmas.Bool.Decides.{nat_tests}
use Rattle.std.proofs.lemmas.List.Elements.{All-head, All-tail}
use Rattle.std.proofs.lemmas.List.Folds.{list_any-append}
use Rattle.std.proofs.lemmas.Bool.{or_right, or_left}

-- ---- tests of lists

pub any-flat_map : {X Y : Type 0} (p : Y → Bool) (f : X → List Y) (xs : List X) → list_any p (flat_map f xs) ≡ list_any (λ x. list_any p (f x)) xs
any-flat_map p f [] = refl
any-flat_map p f (x ∷ xs) = list_any-append p (f x) (flat_map f xs) ∙ ap (λ (b : Bool). list_any p (f x) || b) (any-flat_map p f xs)

-- one that passes, of those that have P
pub any-each : {X : Type 0} (P : X → Type 0) (p : X → Bool) (xs : List X) (goal : Bool) → All P xs → ((x : X) → P x → p x ≡ true → goal ≡ true) → list_any p xs ≡ true → goal ≡ true
any-each P p [] goal all each some = grind (arith) steps 800000
any-each P p (x ∷ xs) goal all each some = grind (arith, All-tail, All-head, any-each P p xs goal (All-tail P x xs all) each) steps 800000

-- one that is there passes
any-from : {X : Type 0} (p : X → Bool) (xs : List X) (x : X) (k : ℕ) → k < length xs → get_or xs k x ≡ x → p x ≡ true → list_any p xs ≡ true
any-from p [] x k lt at is = absurd (omega (arith, lt))
any-from p (y ∷ xs) x zero lt at is = or_left (p y) (list_any p xs) (ap p at ∙ is)
any-from p (y ∷ xs) x (suc k) lt at is = or_right (p y) (list_any p xs) (any-from p xs x k (omega (arith, lt)) at is)

pub any-at : {X : Type 0} (p : X → Bool) (xs : List X) (x : X) → Contains xs x → p x ≡ true → list_any p xs ≡ true
any-at p xs x there is = any-from p xs x there.0 there.1 there.2 is

-- of the numbers from a on
pub any-range : (p : ℕ → Bool) (a n k : ℕ) → a ≤ k → k < a + n → p k ≡ true → list_any p (range_with_len a n) ≡ true
any-range p a zero k lo hi is = grind (arith) steps 800000
any-range p a (suc n) k lo hi is = grind (arith, nat_tests, or_left, or_right, any-range p (a + 1) n k) steps 800000

pub range-any : (p : ℕ → Bool) (a n : ℕ) → list_any p (range_with_len a n) ≡ true → (k : ℕ) × (a ≤ k) × (k < a + n) × (p k ≡ true)
range-any p a zero some = grind (arith) steps 800000
range-any p a (suc n) some = grind (arith, range-any p (a + 1) n) steps 800000
