-- Words whose high bytes are 0, and the row words of a slot that are 0 after its row.
use Rattle.std.proofs.Common.{◌≡◌, ℕ, zero, suc, ◌+◌, ◌-◌, ◌*◌, ◌/◌, ◌%◌, ◌^◌, ◌<◌, ◌≤◌, inl, inr, get_or, refl, sym, ◌∙◌, ap, subst, arith, lit<}
use Rattle.std.specs.Int.{byte_at, bytes_low_first, to_le_bytes, w64}
use Rattle.version_slot.specs.Words.{slot_byte}
use Rattle.std.proofs.Math.Nat.{pow-suc, pow-le-pow_right, one-le-pow}
use Rattle.std.proofs.lemmas.Bool.{cases_lt}
use Rattle.std.proofs.lemmas.Nat.{pow-add, div-add-mod', div_below, mod_below}

pos : (k : ℕ) → 0 < 256 ^ k
pos k = omega (arith, one-le-pow k 256 (lit< tt))

-- a shift by whole bytes
worth : (k : ℕ) → 2 ^ (8 * k) ≡ 256 ^ k
worth zero = refl
worth (suc k) = grind (arith, pow-add 2 (8 * k) 8, worth k, pow-suc 256 k)

-- a byte of a word as a quotient
quotient : (k n : ℕ) → byte_at k n ≡ n / 256 ^ k % 256
quotient a n = grind (arith)

low-at : (i count n k : ℕ) → k < count → get_or (bytes_low_first i count n) k 0 ≡ byte_at (i + k) n
low-at i zero n k lt = absurd (omega (arith, lt))
low-at i (suc count) n zero lt = ap (λ (j : ℕ). byte_at j n) (let same : i ≡ i + 0 = omega arith in same)
low-at i (suc count) n (suc k) lt =
    low-at (suc i) count n k (omega (arith, lt)) ∙ ap (λ (j : ℕ). byte_at j n) (let same : suc i + k ≡ i + suc k = omega arith in same)

byte-is : (n k : ℕ) → k < 8 → get_or (to_le_bytes w64 n) k 0 ≡ n / 256 ^ k % 256
byte-is n k lt = low-at 0 8 n k lt ∙ ap (λ (j : ℕ). byte_at j n) (let same : 0 + k ≡ k = omega arith in same) ∙ quotient k n

-- ---- quotients

small-none : (n m : ℕ) → 0 < m → n < m → n / m ≡ 0
small-none n m some lt = let below : n / m < 1 = div_below n m 1 some (omega (arith, lt)) in omega (arith, below)

none-small : (n m : ℕ) → 0 < m → n / m ≡ 0 → n < m
none-small n m some none = grind (arith, div-add-mod', mod_below)

-- ---- the bytes of a word from one on

-- above what is left of it a number has no bytes
pub clear-above : (n from k : ℕ) → n / 2 ^ (8 * from) ≡ 0 → from ≤ k → k < 8 → get_or (to_le_bytes w64 n) k 0 ≡ 0
clear-above n from k none le lt = grind (arith, none-small, pos from, worth from, pow-le-pow_right, byte-is n k lt, small-none, pos k)

short-down : (left n from : ℕ) → from + left ≡ 8 → n < 2 ^ 64 → ((k : ℕ) → from ≤ k → k < 8 → get_or (to_le_bytes w64 n) k 0 ≡ 0) → n < 256 ^ from
short-down zero n from is fits clear = subst (λ (k : ℕ). n < 256 ^ k) (let all : 8 ≡ from = omega (arith, is) in all) fits
short-down (suc left) n from is fits clear =
    let above : n < 256 ^ suc from = short-down left n (suc from) (omega (arith, is)) fits (λ k le lt. clear k (omega (arith, le)) lt) in
    let product : n < 256 * 256 ^ from = omega (arith, above, pow-suc 256 from) in
    let few : n / 256 ^ from < 256 = div_below n (256 ^ from) 256 (pos from) product in
    let low : n / 256 ^ from % 256 ≡ 0 = sym (byte-is n from (omega (arith, is))) ∙ clear from (omega arith) (omega (arith, is)) in
    none-small n (256 ^ from) (pos from) (omega (arith, few, low))

-- if its bytes from one on are 0, nothing is left of it
pub none-left : (n from : ℕ) → n < 2 ^ 64 → from < 8 → ((k : ℕ) → from ≤ k → k < 8 → get_or (to_le_bytes w64 n) k 0 ≡ 0) → n / 2 ^ (8 * from) ≡ 0
none-left n from fits lt clear =
    let left : from + (8 - from) ≡ 8 = omega (arith, lt) in
    ap (λ (m : ℕ). n / m) (worth from) ∙ small-none n (256 ^ from) (pos from) (short-down (8 - from) n from left fits clear)

-- ---- row words

abbrev Clear : (ℕ → ℕ) → ℕ → ℕ → Type 0
Clear words length count = (i : ℕ) → length ≤ i → i < 8 * (count - 4) → slot_byte words i ≡ 0

-- a byte of a row word
byte-of : (words : ℕ → ℕ) (w k : ℕ) → 4 ≤ w → k < 8 → slot_byte words (8 * (w - 4) + k) ≡ get_or (to_le_bytes w64 (words w)) k 0
byte-of words w k row lt =
    let place : 4 + (8 * (w - 4) + k) / 8 ≡ w = omega (arith, row, lt) in
    let rest : (8 * (w - 4) + k) % 8 ≡ k = omega (arith, lt) in
    ap (λ (v : ℕ). get_or (to_le_bytes w64 (words v)) ((8 * (w - 4) + k) % 8) 0) place ∙ ap (λ (j : ℕ). get_or (to_le_bytes w64 (words w)) j 0) rest

module _ (words : ℕ → ℕ) (length count : ℕ) where
  -- nothing is left of the row's last word, and the words after it are 0
  pub clear-after : words (4 + length / 8) / 2 ^ (8 * (length % 8)) ≡ 0 → ((w : ℕ) → 4 + length / 8 < w → w < count → words w ≡ 0) → Clear words length count
  clear-after none zeros i from to = elim (cases_lt (length / 8) (i / 8)) [
    | inl later ↦
        ap (λ (n : ℕ). get_or (to_le_bytes w64 n) (i % 8) 0) (zeros (4 + i / 8) (omega (arith, later)) (omega (arith, to)))
        ∙ clear-above 0 0 (i % 8) (omega arith) (omega arith) (omega arith)
    | inr same ↦
        let at : 4 + length / 8 ≡ 4 + i / 8 = omega (arith, from, same) in
        clear-above (words (4 + i / 8)) (length % 8) (i % 8) (subst (λ (w : ℕ). words w / 2 ^ (8 * (length % 8)) ≡ 0) at none) (omega (arith, from, at)) (omega arith)
  ]

  module _ (fits : (w : ℕ) → words w < 2 ^ 64) (clear : Clear words length count) where
    pub last-clear : 4 + length / 8 < count → words (4 + length / 8) / 2 ^ (8 * (length % 8)) ≡ 0
    last-clear within =
        none-left (words (4 + length / 8)) (length % 8) (fits (4 + length / 8)) (omega arith) (λ k le lt.
        sym (byte-of words (4 + length / 8) k (omega arith) lt) ∙ clear (8 * (4 + length / 8 - 4) + k) (omega (arith, le)) (omega (arith, within, lt)))

    pub rest-clear : (w : ℕ) → 4 + length / 8 < w → w < count → words w ≡ 0
    rest-clear w after within =
        let none : words w / 2 ^ (8 * 0) ≡ 0 =
        none-left (words w) 0 (fits w) (lit< tt) (λ k le lt. sym (byte-of words w k (omega (arith, after)) lt) ∙ clear (8 * (w - 4) + k) (omega (arith, after)) (omega (arith, after, within, lt))) in
        omega (arith, none)
