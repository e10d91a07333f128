-- A summary of words: which of them aren't 0.
use Rattle.std.proofs.Common.{◌≡◌, ◌≢◌, ℕ, ◌+◌, ◌*◌, ◌/◌, ◌%◌, ◌^◌, ◌<◌, ◌≤◌, true, false, ◌||◌, ◌&&◌, not, nat_eq, List, length, get_or, replicate, sym, ◌∙◌, ap, subst, arith}
use Rattle.std.specs.Int.{bit_at}
use Rattle.std.proofs.lemmas.Bool.{cases_eq, eqb-true, eqb-false}
use Rattle.std.proofs.lemmas.List.{get_or_past, length-replicate}
use Rattle.std.proofs.lemmas.Nat.Bits.{same_from_bits, bit_at-zero, bit_at-lt}
use Rattle.number_set.specs.Bits.{has_bit, is_in, IsLowestBit, IsLowest, IsSummed}
use Rattle.number_set.proofs.Words.{zero-bit, zero-at, zero-words}

zero-word : (word : ℕ) → word ≡ 0 → not (nat_eq word 0) ≡ false
zero-word word is = ap (λ (w : ℕ). not (nat_eq w 0)) is

-- a word without a bit is 0
pub no-bits : (word : ℕ) → ((i : ℕ) → has_bit word i ≡ false) → word ≡ 0
no-bits word none = same_from_bits word 0 (λ i. none-is (bit_at word i) (bit_at-lt word i) (none i) ∙ sym (bit_at-zero i))
  where
    none-is : (b : ℕ) → b < 2 → nat_eq b 1 ≡ false → b ≡ 0
    none-is b lt is = let apart : b ≢ 1 = eqb-false b 1 is in omega (arith, lt, apart)

module _ (words summary now summary' : List ℕ) (line : ℕ) (summed : IsSummed words summary) (size : length now ≡ length words) (size' : length summary' ≡ length summary)
    (others : (at : ℕ) → at ≢ line / 64 → get_or now at 0 ≡ get_or words at 0) where
  kept : (at : ℕ) → at ≢ line / 64 → is_in summary at ≡ not (nat_eq (get_or now at 0) 0)
  kept at apart = summed.sums at ∙ ap (λ (w : ℕ). not (nat_eq w 0)) (sym (others at apart))

  enough : length now ≤ 64 * length summary'
  enough = omega (arith, size, size', summed.enough)

  -- with a line, its word is in the summary
  pub summed-with : is_in now line ≡ true → ((i : ℕ) → is_in summary' i ≡ (nat_eq i (line / 64) || is_in summary i)) → IsSummed now summary'
  summed-with here now_is = grind (arith, eqb-true, eqb-false)

  -- a word that has become 0 isn't
  pub summed-without : get_or now (line / 64) 0 ≡ 0 → ((i : ℕ) → is_in summary' i ≡ (is_in summary i && not (nat_eq i (line / 64)))) → IsSummed now summary'
  summed-without none without = grind (arith, eqb-true)

-- a word with a bit isn't 0
pub some-bit : (words : List ℕ) (k : ℕ) → is_in words k ≡ true → get_or words (k / 64) 0 ≢ 0
some-bit words k here none = absurd (cc (sym here ∙ zero-bit (get_or words (k / 64) 0) (k % 64) none))

-- if a word has a bit before and after, the summary stays
pub summed-still : (words summary now : List ℕ) (line : ℕ) → IsSummed words summary → length now ≡ length words → ((at : ℕ) → at ≢ line / 64 → get_or now at 0 ≡ get_or words at 0) → get_or words (line / 64) 0 ≢ 0
    → get_or now (line / 64) 0 ≢ 0 → IsSummed now summary
summed-still words summary now line summed size others some some' = grind (arith, cases_eq, enough, eqb-true) steps 800000

-- words of 0, and a summary of them
pub summed-none : (size : ℕ) (words summary : List ℕ) → size < 2 ^ 57 → words ≡ replicate size 0 → summary ≡ replicate (size / 64 + 1) 0 → IsSummed words summary
summed-none size words summary small is is' =
    let long : length words ≡ size = ap (λ (ws : List ℕ). length ws) is ∙ length-replicate size 0 in
    let long' : length summary ≡ size / 64 + 1 = ap (λ (ws : List ℕ). length ws) is' ∙ length-replicate (size / 64 + 1) 0 in
    record {
      sums = λ at. zero-words (size / 64 + 1) summary is' at ∙ sym (zero-word (get_or words at 0) (zero-at size words is at));
      enough = omega (arith, long, long');
      few = omega (arith, long, small);
      small = omega (arith, long', small);
    }

pub summed-same : (words summary words' summary' : List ℕ) → words' ≡ words → summary' ≡ summary → IsSummed words summary → IsSummed words' summary'
summed-same words summary words' summary' same same' summed = subst (λ (ws : List ℕ). IsSummed ws summary') (sym same) (subst (λ (ss : List ℕ). IsSummed words ss) (sym same') summed)

-- ---- the lowest line

module _ (words summary : List ℕ) (summed : IsSummed words summary) where
  -- a word that isn't in the summary is 0
  clear-word : (at : ℕ) → is_in summary at ≡ false → get_or words at 0 ≡ 0
  clear-word at none = grind (arith, eqb-true) steps 800000

  -- one that is in it isn't
  some-word : (at : ℕ) → is_in summary at ≡ true → get_or words at 0 ≢ 0
  some-word at here none = absurd (cc (sym here ∙ summed.sums at ∙ zero-word (get_or words at 0) none))

  pub word-within : (at : ℕ) → is_in summary at ≡ true → at < length words
  word-within at here = grind (arith, get_or_past)

  pub in-words : (from at bit : ℕ) → IsLowest summary from at → IsLowestBit (get_or words at 0) 0 bit → IsLowest words (64 * from) (64 * at + bit)
  in-words from at bit first found = grind (arith, word-within, zero-bit, clear-word)

  pub never-empty : (from at : ℕ) → IsLowest summary from at → ((i : ℕ) → 0 ≤ i → has_bit (get_or words at 0) i ≡ false) → ⊥
  never-empty from at first none = some-word at first.here (no-bits (get_or words at 0) (λ i. none i (omega arith)))
