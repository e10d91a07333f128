-- Keys: when two are the same, which comes first, and lists of them that rise.
use Rattle.std.proofs.Common.{◌≡◌, true, false, List, [], ◌∷◌, refl, arith}
use Rattle.std.proofs.lemmas.Bool.{and_parts, eqb-true}
use Rattle.std.proofs.lemmas.Bool.Decides.{nat_tests}
use Rattle.base.specs.declared.key.Key.{Key}
use Rattle.base.specs.Keys.{key_eq, key_lt, is_rising}

pub key_eq-true : (a b : Key) → key_eq a b ≡ true → a ≡ b
key_eq-true a b e = grind (arith, and_parts, eqb-true)

pub key_eq-same : (a : Key) → key_eq a a ≡ true
key_eq-same a = grind (arith, nat_tests)

pub key_eq-swap : (a b : Key) → key_eq a b ≡ key_eq b a
key_eq-swap a b = grind (arith, nat_tests)

pub key_lt-trans : (a b c : Key) → key_lt a b ≡ true → key_lt b c ≡ true → key_lt a c ≡ true
key_lt-trans a b c h k = grind (arith, nat_tests)

pub key_lt-apart : (a b : Key) → key_lt a b ≡ true → key_eq a b ≡ false
key_lt-apart a b less = grind (arith, nat_tests)

-- if two keys differ, one of them comes first
pub key_lt-swap : (a b : Key) → key_eq a b ≡ false → key_lt a b ≡ false → key_lt b a ≡ true
key_lt-swap a b apart less = grind (arith, nat_tests)

-- the rest of rising keys rises
pub keys-rest : (a : Key) (keys : List Key) → is_rising (a ∷ keys) ≡ true → is_rising keys ≡ true
keys-rest a [] rising = refl
keys-rest a (b ∷ keys) rising = (and_parts (key_lt a b) (is_rising (b ∷ keys)) rising).1
