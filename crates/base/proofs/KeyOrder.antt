-- Keys in order, in a map and in a list.
use Rattle.std.proofs.Common.{◌≡◌, ℕ, true, cond, ◌&&◌, ◌||◌, List, [], ◌∷◌, map, refl, sym, ◌∙◌, arith, nat_eq, nat_lt}
use Rattle.std.specs.Prelude.{Some}
use Rattle.std.specs.declared.cmp.Ordering.{Ordering}
use Rattle.std.specs.declared.cmp.Ordering.TheVariants.{Less}
use Rattle.std.specs.Ordering.{nat_cmp, ordering_then, is_eq, is_lt}
use Rattle.std.specs.BTreeMap.{is_at}
use Rattle.std.specs.Map.{lookup}
use Rattle.std.specs.List.Sorted.{IsStrictlySortedBy}
use Rattle.std.proofs.lemmas.Bool.{and_from}
use Rattle.std.proofs.lemmas.Bool.Decides.{nat_tests}
use Rattle.std.proofs.lemmas.Map.Keys.{sorted_tail, sorted_head}
use Rattle.base.specs.declared.key.Key.{Key}
use Rattle.base.specs.Keys.{key_eq, key_lt, is_rising, lookup_key}
use Rattle.base.proofs.Keys.{key_eq-swap}

-- the order of keys
abbrev pub key_cmp : Key → Key → Ordering
key_cmp a b = ordering_then (nat_cmp a.table b.table) (nat_cmp a.key b.key)

pub is_eq-then : (o p : Ordering) → is_eq (ordering_then o p) ≡ (is_eq o && is_eq p)
is_eq-then a p = grind (arith)

is_lt-then : (o p : Ordering) → is_lt (ordering_then o p) ≡ (is_lt o || (is_eq o && is_lt p))
is_lt-then a p = grind (arith)

pub is_eq-nat : (a b : ℕ) → is_eq (nat_cmp a b) ≡ nat_eq a b
is_eq-nat a b = grind (arith, nat_tests)

is_lt-nat : (a b : ℕ) → is_lt (nat_cmp a b) ≡ nat_lt a b
is_lt-nat a b = grind (arith, nat_tests)

-- the order distinguishes two keys exactly if they differ
pub is_at-key : (key other : Key) → is_at (key_cmp key) other ≡ key_eq key other
is_at-key key other = grind (arith, is_eq-then, is_eq-nat)

-- and puts the lower one first
less-key : (key other : Key) → key_cmp key other ≡ Less → key_lt key other ≡ true
less-key key other less = grind (arith, is_lt-then, is_lt-nat, is_eq-nat)

-- a list of pairs has at a key what a map has
pub looked-up : {X : Type 0} (pairs : List (Key × X)) (key : Key) → lookup_key pairs key ≡ lookup (is_at (key_cmp key)) pairs
looked-up [] key = refl
looked-up (a ∷ pairs) key = λ i. cond ((key_eq-swap a.0 key ∙ sym (is_at-key key a.0)) i) (Some a.1) (looked-up pairs key i)

-- the keys of a map rise
pub sorted-rising : (rows : List (Key × List ℕ)) → IsStrictlySortedBy key_cmp (map (λ row. row.0) rows) → is_rising (map (λ row. row.0) rows) ≡ true
sorted-rising [] sorted = refl
sorted-rising (a ∷ []) sorted = refl
sorted-rising (a ∷ b ∷ rows) sorted =
    let keys = map (λ (row : Key × List ℕ). row.0) (b ∷ rows) in
    and_from _ _ (less-key a.0 b.0 (sorted_head key_cmp a.0 keys sorted).0) (sorted-rising (b ∷ rows) (sorted_tail key_cmp a.0 keys sorted))
