-- Sets of numbers as bits of words.
use Rattle.std.proofs.Common.{◌≡◌, ◌≢◌, inl, inr, ℕ, ◌+◌, ◌-◌, ◌*◌, ◌/◌, ◌%◌, ◌^◌, ◌<◌, ◌≤◌, Bool, true, false, ◌||◌, ◌&&◌, not, nat_eq, List, length, get_or, set, replicate, bit_and, bit_or, refl, sym, ◌∙◌, ap, arith}
use Rattle.std.specs.Prelude.{min}
use Rattle.std.specs.Int.{bit_at, trailing_zeros, w64}
use Rattle.std.proofs.lemmas.Bool.{cases_eq, cases_lt, eqb-false}
use Rattle.std.proofs.lemmas.Nat.{and_le_l}
use Rattle.std.proofs.lemmas.Nat.Bits.{bit_at-zero, bit_at-lt, bit_at_above, bit_at_and, bit_at_mask_inside, bit_at_mask_below, ones_shl, bit_at-trailing_zeros, bit_at_set_same, bit_at_set_other, bit_at_clear_same, bit_at_clear_other}
use Rattle.std.proofs.lemmas.List.{get_or_past, get_or-set_other, get_or-replicate, length-replicate}
use Rattle.std.proofs.lemmas.Grind.{get_or-set_at}
use Rattle.number_set.specs.Bits.{has_bit, is_in, IsLowestBit, IsClearFrom}

-- ---- one word

pub zero-bit : (word i : ℕ) → word ≡ 0 → has_bit word i ≡ false
zero-bit word i none = ap (λ (w : ℕ). nat_eq (bit_at w i) 1) none ∙ ap (λ (b : ℕ). nat_eq b 1) (bit_at-zero i)

pub past-bit : (word i : ℕ) → word < 2 ^ 64 → 64 ≤ i → has_bit word i ≡ false
past-bit word i small past = ap (λ (b : ℕ). nat_eq b 1) (bit_at_above word 64 i small past)

module _ (word low : ℕ) (small : word < 2 ^ 64) (lt : low < 64) where
  -- the word without the bits below
  abbrev masked : ℕ
  masked = bit_and word ((2 ^ 64 - 1) * 2 ^ low % 2 ^ 64)

  mask : (2 ^ 64 - 1) * 2 ^ low % 2 ^ 64 ≡ 2 ^ 64 - 2 ^ low
  mask = ones_shl 64 low (omega (arith, lt))

  whole : (x : ℕ) → x < 2 → min x 1 ≡ x
  whole x few = omega (arith, few)

  nothing : (x : ℕ) → min x 0 ≡ 0
  nothing x = omega arith

  high : (i : ℕ) → low ≤ i → i < 64 → bit_at masked i ≡ bit_at word i
  high i le below =
      bit_at_and word ((2 ^ 64 - 1) * 2 ^ low % 2 ^ 64) i
      ∙ ap (λ (m : ℕ). min (bit_at word i) (bit_at m i)) mask
      ∙ ap (λ (b : ℕ). min (bit_at word i) b) (bit_at_mask_inside low 64 i le below) ∙ whole (bit_at word i) (bit_at-lt word i)

  under : (i : ℕ) → i < low → bit_at masked i ≡ 0
  under i below =
      bit_at_and word ((2 ^ 64 - 1) * 2 ^ low % 2 ^ 64) i
      ∙ ap (λ (m : ℕ). min (bit_at word i) (bit_at m i)) mask
      ∙ ap (λ (b : ℕ). min (bit_at word i) b) (bit_at_mask_below low 64 i below) ∙ nothing (bit_at word i)

  pub lowest-is : 0 < masked → IsLowestBit word low (trailing_zeros w64 masked)
  lowest-is some =
      let least : masked < 2 ^ 64 = omega (arith, small, and_le_l word ((2 ^ 64 - 1) * 2 ^ low % 2 ^ 64)) in
      let found = bit_at-trailing_zeros w64 masked some least in
      let le : low ≤ trailing_zeros w64 masked = elim (cases_lt (trailing_zeros w64 masked) low) [
        | inl below ↦ absurd (omega (arith, under (trailing_zeros w64 masked) below, found.1))
        | inr ge ↦ ge
      ] in
      record {
        above = le;
        within = found.0;
        here = ap (λ (b : ℕ). nat_eq b 1) (sym (high (trailing_zeros w64 masked) le found.0) ∙ found.1);
        before = λ i ge below. ap (λ (b : ℕ). nat_eq b 1) (sym (high i ge (omega (arith, below, found.0))) ∙ found.2 i below);
      }

  pub lowest-none : masked ≡ 0 → (i : ℕ) → low ≤ i → has_bit word i ≡ false
  lowest-none none i le = elim (cases_lt i 64) [
    | inl below ↦ ap (λ (b : ℕ). nat_eq b 1) (sym (high i le below)) ∙ zero-bit masked i none
    | inr ge ↦ past-bit word i small ge
  ]

-- ---- one bit of many words

module _ (words : List ℕ) (k word : ℕ) (b : Bool) (within : k / 64 < length words) (here : has_bit word (k % 64) ≡ b)
    (others : (i : ℕ) → i < 64 → i ≢ k % 64 → bit_at word i ≡ bit_at (get_or words (k / 64) 0) i) where
  at-place : is_in (set words (k / 64) word) k ≡ b
  at-place = ap (λ (w : ℕ). nat_eq (bit_at w (k % 64)) 1) (get_or-set_at words (k / 64) (k / 64) word 0 refl within) ∙ here

  elsewhere : (i : ℕ) → i ≢ k → is_in (set words (k / 64) word) i ≡ is_in words i
  elsewhere i apart = grind (arith, cases_eq, get_or-set_at, get_or-set_other) steps 800000

pub and-true : (x : Bool) → x ≡ (x && true)
and-true a = grind (arith)

pub and-false : (x : Bool) → false ≡ (x && false)
and-false a = grind (arith)

module _ (words : List ℕ) (k : ℕ) (within : k / 64 < length words) where
  abbrev word : ℕ
  word = get_or words (k / 64) 0

  abbrev with_bit : ℕ
  with_bit = bit_or word (1 * 2 ^ (k % 64) % 2 ^ 64)

  abbrev without_bit : ℕ
  without_bit = bit_and word (2 ^ 64 - 1 - 1 * 2 ^ (k % 64) % 2 ^ 64)

  set-here : has_bit with_bit (k % 64) ≡ true
  set-here = ap (λ (x : ℕ). nat_eq x 1) (bit_at_set_same w64 word (k % 64) (omega arith))

  set-others : (i : ℕ) → i < 64 → i ≢ k % 64 → bit_at with_bit i ≡ bit_at word i
  set-others i lt apart = bit_at_set_other w64 word (k % 64) (omega arith) i apart

  clear-here : has_bit without_bit (k % 64) ≡ false
  clear-here = ap (λ (x : ℕ). nat_eq x 1) (bit_at_clear_same w64 word (k % 64) (omega arith))

  clear-others : (i : ℕ) → i < 64 → i ≢ k % 64 → bit_at without_bit i ≡ bit_at word i
  clear-others i lt apart = bit_at_clear_other w64 word (k % 64) (omega arith) i lt apart

  pub inserted : (i : ℕ) → is_in (set words (k / 64) with_bit) i ≡ (nat_eq i k || is_in words i)
  inserted i = grind (arith, at-place, set-here, set-others, elsewhere)

  pub removed : (i : ℕ) → is_in (set words (k / 64) without_bit) i ≡ (is_in words i && not (nat_eq i k))
  removed i = grind (arith, at-place, clear-here, clear-others, elsewhere, eqb-false, and-true)

  pub other-words : (w at : ℕ) → at ≢ k / 64 → get_or (set words (k / 64) w) at 0 ≡ get_or words at 0
  other-words w at apart = get_or-set_other words (k / 64) at w 0 apart

  -- no word becomes greater
  pub removed-less : (at : ℕ) → get_or (set words (k / 64) without_bit) at 0 ≤ get_or words at 0
  removed-less at = grind (arith, cases_eq, get_or-set_at, and_le_l, other-words) steps 800000

-- ---- the walk over words

pub past-words : (words : List ℕ) (i : ℕ) → length words ≤ i / 64 → is_in words i ≡ false
past-words words i past = zero-bit (get_or words (i / 64) 0) (i % 64) (get_or_past words (i / 64) 0 past)

-- from the number on, none is in the set up to the bit of the word
pub record Looks (words : List ℕ) (from at low : ℕ) : Type 0 where
  pub fits : low < 64
  pub place : from ≤ 64 * at + low
  pub none : (i : ℕ) → from ≤ i → i < 64 * at + low → is_in words i ≡ false

pub looks-first : (words : List ℕ) (from : ℕ) → Looks words from (from / 64) (from % 64)
looks-first words from = record { fits = omega arith; place = omega arith; none = λ i ge lt. absurd (omega (arith, ge, lt)) }

module _ (words : List ℕ) (from at low : ℕ) (looks : Looks words from at low) where
  pub looks-past : length words ≤ at → IsClearFrom words from
  looks-past past i ge = grind (arith, past-words)

-- ---- words of 0

pub zero-at : (m : ℕ) (words : List ℕ) → words ≡ replicate m 0 → (at : ℕ) → get_or words at 0 ≡ 0
zero-at m words is at = grind (arith, cases_lt, get_or-replicate, get_or_past, length-replicate)

pub zero-words : (m : ℕ) (words : List ℕ) → words ≡ replicate m 0 → (i : ℕ) → is_in words i ≡ false
zero-words m words is i = zero-bit (get_or words (i / 64) 0) (i % 64) (zero-at m words is (i / 64))
