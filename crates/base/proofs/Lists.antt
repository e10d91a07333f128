-- Lists: tests of all, of some, of the first; lists of numbers that rise.
use Rattle.std.proofs.Common.{◌≡◌, ℕ, zero, suc, Bool, true, false, ◌||◌, List, [], ◌∷◌, map, filter, find, take, drop, refl, ◌∙◌, ap, Some, nat_lt, ◌<◌, length, get_or, arith}
use Rattle.std.specs.List.{list_any, list_all}
use Rattle.std.proofs.lemmas.Bool.{and_parts, and_from}
use Rattle.std.proofs.lemmas.List.{get_or_default}
use Rattle.base.specs.Records.{are_rising}

-- what all have, the first ones have
pub all-take : {X : Type 0} (p : X → Bool) (n : ℕ) (xs : List X) → list_all p xs ≡ true → list_all p (take n xs) ≡ true
all-take p zero xs all = refl
all-take p (suc n) [] all = refl
all-take p (suc n) (x ∷ xs) all = let both = and_parts (p x) (list_all p xs) all in and_from (p x) (list_all p (take n xs)) both.0 (all-take p n xs both.1)

-- and the later ones
pub all-drop : {X : Type 0} (p : X → Bool) (n : ℕ) (xs : List X) → list_all p xs ≡ true → list_all p (drop n xs) ≡ true
all-drop p zero xs all = all
all-drop p (suc n) [] all = refl
all-drop p (suc n) (x ∷ xs) all = all-drop p n xs (and_parts (p x) (list_all p xs) all).1

-- and those that pass another test
pub all-filter : {X : Type 0} (p f : X → Bool) (xs : List X) → list_all p xs ≡ true → list_all p (filter f xs) ≡ true
all-filter p f [] all = refl
all-filter p f (x ∷ xs) all = grind (arith, all-filter p f xs, and_parts, and_from)

pub any-map : {X Y : Type 0} (p : Y → Bool) (h : X → Y) (xs : List X) → list_any p (map h xs) ≡ list_any (λ x. p (h x)) xs
any-map p h [] = refl
any-map p h (x ∷ xs) = ap (λ (b : Bool). p (h x) || b) (any-map p h xs)

-- tests that agree
pub any-same : {X : Type 0} (f g : X → Bool) (xs : List X) → ((x : X) → f x ≡ g x) → list_any f xs ≡ list_any g xs
any-same f g [] same = refl
any-same f g (x ∷ xs) same = ap (λ (b : Bool). b || list_any f xs) (same x) ∙ ap (λ (b : Bool). g x || b) (any-same f g xs same)

pub any-never : {X : Type 0} (xs : List X) → list_any (λ x. false) xs ≡ false
any-never [] = refl
any-never (x ∷ xs) = any-never xs

-- of two tests one or the other passes for some
pub any-or : {X : Type 0} (f g : X → Bool) (xs : List X) → list_any (λ x. f x || g x) xs ≡ (list_any f xs || list_any g xs)
any-or f g [] = refl
any-or f g (x ∷ xs) = grind (arith, any-or f g xs)

pub filter-all : {X : Type 0} (xs : List X) → filter (λ (x : X). true) xs ≡ xs
filter-all [] = refl
filter-all (x ∷ xs) = λ i. x ∷ filter-all xs i

-- what is found passes the test
pub find-passes : {X : Type 0} (test : X → Bool) (xs : List X) (x : X) → find test xs ≡ Some x → test x ≡ true
find-passes test [] x e = absurd (cc e)
find-passes test (y ∷ ys) x e = grind (arith, find-passes test ys x)

-- the rest of a rising list rises
pub rising-rest : (x : ℕ) (xs : List ℕ) → are_rising (x ∷ xs) ≡ true → are_rising xs ≡ true
rising-rest x [] rising = refl
rising-rest x (y ∷ xs) rising = (and_parts (nat_lt x y) (are_rising (y ∷ xs)) rising).1

-- the number that was read is the one in the list
pub read-same : (xs : List ℕ) (i x : ℕ) → i < length xs → x ≡ get_or xs i x → x ≡ get_or xs i 0
read-same xs i x lt is = is ∙ get_or_default xs i x 0 lt
