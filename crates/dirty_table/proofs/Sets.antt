-- Sets of sessions as bits.
use Rattle.std.proofs.Common.{◌≡◌, inl, inr, ℕ, zero, suc, ◌-◌, ◌*◌, ◌%◌, ◌^◌, ◌<◌, Bool, true, false, ◌||◌, ◌&&◌, not, nat_eq, bit_and, bit_or, refl, sym, ◌∙◌, ap, arith}
use Rattle.std.specs.Prelude.{min, bit_xor}
use Rattle.std.specs.Int.{bit_at, w64}
use Rattle.std.proofs.lemmas.Bool.{cases_lt, eqb-true, eqb-false}
use Rattle.std.proofs.lemmas.Nat.Bits.{bit_at-lt, bit_at_and, bit_at_xor, bit_at_set_same, bit_at_set_other, bit_at_clear_same, bit_at_clear_other}
use Rattle.std.proofs.lemmas.Nat.{and_le_l}
use Rattle.dirty_table.specs.declared.sessions.SessionSet.{SessionSet}
use Rattle.number_set.specs.Bits.{has_bit}
use Rattle.dirty_table.specs.Touches.{has, meets}
use Rattle.number_set.proofs.Words.{past-bit, and-true, and-false}
use Rattle.number_set.proofs.Summaries.{no-bits}

-- ---- one set

pub with-session : (bits session n : ℕ) → session < 64 → has_bit (bit_or bits (1 * 2 ^ session % 2 ^ 64)) n ≡ (nat_eq n session || has_bit bits n)
with-session bits session n lt = by (nat_eq n session) refl
  where
    by : (b : Bool) → nat_eq n session ≡ b → has_bit (bit_or bits (1 * 2 ^ session % 2 ^ 64)) n ≡ (b || has_bit bits n)
    by true e = ap (has_bit (bit_or bits (1 * 2 ^ session % 2 ^ 64))) (eqb-true n session e) ∙ ap (λ (x : ℕ). nat_eq x 1) (bit_at_set_same w64 bits session lt)
    by false e = ap (λ (x : ℕ). nat_eq x 1) (bit_at_set_other w64 bits session lt n (eqb-false n session e))

pub without-session : (bits session n : ℕ) → bits < 2 ^ 64 → session < 64 → has_bit (bit_and bits (2 ^ 64 - 1 - 1 * 2 ^ session % 2 ^ 64)) n ≡ (has_bit bits n && not (nat_eq n session))
without-session bits session n small lt = by (nat_eq n session) refl
  where
    rest : ℕ
    rest = bit_and bits (2 ^ 64 - 1 - 1 * 2 ^ session % 2 ^ 64)

    by : (b : Bool) → nat_eq n session ≡ b → has_bit rest n ≡ (has_bit bits n && not b)
    by true e = ap (has_bit rest) (eqb-true n session e) ∙ ap (λ (x : ℕ). nat_eq x 1) (bit_at_clear_same w64 bits session lt) ∙ and-false (has_bit bits n)
    by false e = elim (cases_lt n 64) [
      | inl below ↦ ap (λ (x : ℕ). nat_eq x 1) (bit_at_clear_other w64 bits session lt n below (eqb-false n session e)) ∙ and-true (has_bit bits n)
      | inr past ↦ past-bit rest n (omega (arith, small, and_le_l bits (2 ^ 64 - 1 - 1 * 2 ^ session % 2 ^ 64))) past ∙ sym (past-bit bits n small past) ∙ and-true (has_bit bits n)
    ]

pub without-sessions : (bits others n : ℕ) → has_bit (bit_xor bits (bit_and bits others)) n ≡ (has_bit bits n && not (has_bit others n))
without-sessions bits others n = grind (arith, bit_at_xor, bit_at_and, bit_at-lt) steps 800000

-- ---- two sets

-- sets without a session in both
pub meets-apart : (one two : SessionSet) → ((n : ℕ) → has one n ≡ true → has two n ≡ false) → meets one two ≡ false
meets-apart one two apart =
    ap (λ (w : ℕ). not (nat_eq w 0)) (no-bits (bit_and one.bits two.bits) (λ n.
    ap (λ (x : ℕ). nat_eq x 1) (bit_at_and one.bits two.bits n) ∙ tests (bit_at one.bits n) (bit_at two.bits n) (bit_at-lt one.bits n) (bit_at-lt two.bits n) (apart n)))
  where
    tests : (x y : ℕ) → x < 2 → y < 2 → (nat_eq x 1 ≡ true → nat_eq y 1 ≡ false) → nat_eq (min x y) 1 ≡ false
    tests zero zero few few' none = refl
    tests zero (suc zero) few few' none = refl
    tests zero (suc (suc y)) few few' none = absurd (omega (arith, few'))
    tests (suc zero) zero few few' none = refl
    tests (suc zero) (suc zero) few few' none = absurd (cc (none refl))
    tests (suc zero) (suc (suc y)) few few' none = absurd (omega (arith, few'))
    tests (suc (suc x)) y few few' none = absurd (omega (arith, few))

-- a session in both
pub meets-at : (one two : SessionSet) (n : ℕ) → has one n ≡ true → has two n ≡ true → meets one two ≡ true
meets-at one two n here there = grind (arith, bit_at_and one.bits two.bits n)
