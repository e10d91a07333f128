-- Bits in words, and the truth values that they stand for.
use Rattle.std.proofs.Common.{◌≡◌, ◌≢◌, inl, inr, ℕ, zero, suc, ◌+◌, ◌-◌, ◌/◌, ◌^◌, ◌<◌, ◌≤◌, Bool, true, false, ◌||◌, ◌&&◌, not, nat_eq, List, length, get_or, set, replicate, length-set, refl, sym, ◌∙◌, ap, arith}
use Rattle.std.proofs.lemmas.Bool.{cases_eq, cases_lt, eqb-true, eq-eqb}
use Rattle.std.proofs.lemmas.List.{get_or_past, get_or-set_other, get_or-replicate, length-replicate, ext_get_or}
use Rattle.std.proofs.lemmas.Grind.{get_or-set_at}
use Rattle.std.proofs.lemmas.List.FromFn.{length-map-range_with_len, get_or-map-range_with_len}
use Rattle.base.specs.Search.{count_below}
use Rattle.base.proofs.Search.{cases_below}
use Rattle.number_set.specs.Bits.{is_in, IsLowest, IsClearFrom}
use Rattle.number_set.specs.Numbers.{has, count_of, members, HoldsMembers, IsFirstFrom, IsNoneFrom}
use Rattle.number_set.proofs.Words.{zero-words}

-- ---- how many pass a test

count-same : (n : ℕ) (f g : ℕ → Bool) → ((k : ℕ) → k < n → f k ≡ g k) → count_below n f ≡ count_below n g
count-same zero f g each = refl
count-same (suc n) f g each = grind (arith, count-same n f g)

count-most : (n : ℕ) (f : ℕ → Bool) → count_below n f ≤ n
count-most zero f = omega arith
count-most (suc n) f = grind (arith, count-most n f)

-- one more passes
count-one : (n k : ℕ) (f g : ℕ → Bool) → k < n → f k ≡ false → g k ≡ true → ((i : ℕ) → i ≢ k → g i ≡ f i) → count_below n g ≡ suc (count_below n f)
count-one zero k f g lt out in' others = absurd (omega (arith, lt))
count-one (suc n) k f g lt out in' others = grind (arith, cases_below, count-one n k f g, count-same n f g)

count-none : (n : ℕ) (f : ℕ → Bool) → ((k : ℕ) → k < n → f k ≡ false) → count_below n f ≡ 0
count-none zero f none = refl
count-none (suc n) f none = grind (arith, count-none n f)

count-some : (n k : ℕ) (f : ℕ → Bool) → k < n → f k ≡ true → 0 < count_below n f
count-some zero k f lt here = absurd (omega (arith, lt))
count-some (suc n) k f lt here = grind (arith, cases_below, count-some n k f)

-- ---- a truth value for each number

size-of : (n : ℕ) (words : List ℕ) → length (members n words) ≡ n
size-of n words = length-map-range_with_len (is_in words) 0 n

pub below-limit : (n k : ℕ) (words : List ℕ) (view : List Bool) → members n words ≡ view → k < length view → k < n
below-limit n k words view is lt = omega (arith, lt, size-of n words, ap (λ (l : List Bool). length l) is)

value-of : (n : ℕ) (words : List ℕ) (k : ℕ) (d : Bool) → k < n → get_or (members n words) k d ≡ is_in words k
value-of n words k d lt = get_or-map-range_with_len (is_in words) 0 n k k d lt (omega arith)

pub has-is : (n : ℕ) (words : List ℕ) → IsClearFrom words n → (k : ℕ) → has (members n words) k ≡ is_in words k
has-is n words clear k = grind (arith, cases_lt, value-of, get_or_past, size-of)

pub count-is : (n counted : ℕ) (words : List ℕ) → HoldsMembers n counted words → counted ≡ count_of (members n words)
count-is n counted words holds =
    holds.sums ∙ count-same n (is_in words) (has (members n words)) (λ k lt. sym (has-is n words holds.beyond k)) ∙ ap (λ (m : ℕ). count_below m (has (members n words))) (sym (size-of n words))

-- if one number alone changes
module _ (n k : ℕ) (b : Bool) (words now : List ℕ) (lt : k < n) (here : is_in now k ≡ b) (others : (i : ℕ) → i ≢ k → is_in now i ≡ is_in words i) where
  pub members-set : members n now ≡ set (members n words) k b
  members-set =
      ext_get_or false (members n now) (set (members n words) k b) (size-of n now ∙ sym (length-set (members n words) k b ∙ size-of n words))
      (λ i below.
      let i_lt : i < n = omega (arith, below, size-of n now) in
      value-of n now i false i_lt
      ∙ elim (cases_eq i k) [
        | inl same ↦ ap (is_in now) same ∙ here ∙ sym (get_or-set_at (members n words) k i b false same (omega (arith, lt, size-of n words)))
        | inr other ↦ others i other ∙ sym (value-of n words i false i_lt) ∙ sym (get_or-set_other (members n words) k i b false other)
      ])

  still-clear : IsClearFrom words n → IsClearFrom now n
  still-clear clear i ge = others i (omega (arith, lt, ge)) ∙ clear i ge

-- ---- a number more, and one less

module _ (n counted k : ℕ) (words now : List ℕ) (holds : HoldsMembers n counted words) (lt : k < n) (size : length now ≡ length words) where
  pub place-of : k / 64 < length words
  place-of = omega (arith, lt, holds.fits)

  pub counted-few : counted + 1 < 2 ^ 64
  counted-few = omega (arith, holds.sums, count-most n (is_in words), holds.fits, holds.few)

  pub counted-some : is_in words k ≡ true → 0 < counted
  counted-some here = omega (arith, holds.sums, count-some n k (is_in words) lt here)

  module _ (is : (i : ℕ) → is_in now i ≡ (nat_eq i k || is_in words i)) where
    put-here : is_in now k ≡ true
    put-here = is k ∙ ap (λ (b : Bool). b || is_in words k) (eq-eqb k k refl)

    put-others : (i : ℕ) → i ≢ k → is_in now i ≡ is_in words i
    put-others i apart = grind (arith, eqb-true)

    pub inserted-members : members n now ≡ set (members n words) k true
    inserted-members = members-set n k true words now lt put-here put-others

    pub inserted-holds : is_in words k ≡ false → HoldsMembers n (counted + 1) now
    inserted-holds none = record {
      fits = omega (arith, holds.fits, size);
      few = omega (arith, holds.few, size);
      beyond = still-clear n k true words now lt put-here put-others holds.beyond;
      sums = omega (arith, holds.sums, count-one n k (is_in words) (is_in now) lt none put-here put-others);
    }

  module _ (is : (i : ℕ) → is_in now i ≡ (is_in words i && not (nat_eq i k))) where
    out-here : is_in now k ≡ false
    out-here = grind (arith, eq-eqb)

    out-others : (i : ℕ) → i ≢ k → is_in now i ≡ is_in words i
    out-others i apart = grind (arith, eqb-true)

    pub removed-members : members n now ≡ set (members n words) k false
    removed-members = members-set n k false words now lt out-here out-others

    pub removed-holds : is_in words k ≡ true → HoldsMembers n (counted - 1) now
    removed-holds here = record {
      fits = omega (arith, holds.fits, size);
      few = omega (arith, holds.few, size);
      beyond = still-clear n k false words now lt out-here out-others holds.beyond;
      sums = omega (arith, holds.sums, count-one n k (is_in now) (is_in words) lt out-here here (λ i apart. sym (out-others i apart)));
    }

-- a number that is there already, and one that isn't
pub members-kept : (n k : ℕ) (b : Bool) (words : List ℕ) → k < n → is_in words k ≡ b → members n words ≡ set (members n words) k b
members-kept n k b words lt is = members-set n k b words words lt is (λ i apart. refl)

-- ---- no number

pub none-holds : (n : ℕ) (words : List ℕ) → n < 2 ^ 62 → words ≡ replicate (n / 64 + 1) 0 → HoldsMembers n 0 words
none-holds n words small is =
    let size : length words ≡ n / 64 + 1 = ap (λ (ws : List ℕ). length ws) is ∙ length-replicate (n / 64 + 1) 0 in
    record {
      fits = omega (arith, size);
      few = omega (arith, size, small);
      beyond = λ i ge. zero-words (n / 64 + 1) words is i;
      sums = sym (count-none n (is_in words) (λ i lt. zero-words (n / 64 + 1) words is i));
    }

pub none-members : (n m : ℕ) (words : List ℕ) → words ≡ replicate m 0 → members n words ≡ replicate n false
none-members n m words is =
    ext_get_or false (members n words) (replicate n false) (size-of n words ∙ sym (length-replicate n false))
    (λ i below. let lt : i < n = omega (arith, below, size-of n words) in value-of n words i false lt ∙ zero-words m words is i ∙ sym (get_or-replicate n i false false lt))

-- ---- the lowest number

pub first-is : (n counted : ℕ) (words : List ℕ) → HoldsMembers n counted words → (from k : ℕ) → IsLowest words from k → IsFirstFrom (members n words) from k
first-is n counted words holds from k lowest = record {
  above = lowest.low;
  here = has-is n words holds.beyond k ∙ lowest.here;
  before = λ i ge lt. has-is n words holds.beyond i ∙ lowest.before i ge lt;
}

pub none-is : (n counted : ℕ) (words : List ℕ) → HoldsMembers n counted words → (from : ℕ) → IsClearFrom words from → IsNoneFrom (members n words) from
none-is n counted words holds from clear i ge = has-is n words holds.beyond i ∙ clear i ge
