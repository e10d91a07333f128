-- The bytes of a number that was read are the bytes that it was read from.
use Rattle.std.proofs.Common.{◌≡◌, ℕ, zero, suc, ◌<◌, ◌≤◌, List, [], ◌∷◌, ◌++◌, length, take, drop, get_or, sym, ap, ◌∙◌, arith, length-take-le, take_all}
use Rattle.std.proofs.Math.Seq.{take-add}
use Rattle.std.proofs.lemmas.List.{get_or-take, length-drop}
use Rattle.std.proofs.lemmas.Nat.{le_bytes_2, le_bytes_4, le_bytes_8}
use Rattle.byteorder.specs.Endian.{little_bytes, little_number}

-- each is a byte
abbrev pub AreBytes : List ℕ → Type 0
AreBytes xs = (i : ℕ) → get_or xs i 0 < 256

pub take-bytes : (n : ℕ) (xs : List ℕ) → AreBytes xs → AreBytes (take n xs)
take-bytes zero xs bytes i = omega arith
take-bytes (suc n) [] bytes i = bytes i
take-bytes (suc n) (x ∷ xs) bytes zero = bytes zero
take-bytes (suc n) (x ∷ xs) bytes (suc i) = take-bytes n xs (λ j. bytes (suc j)) i

pub drop-bytes : (n : ℕ) (xs : List ℕ) → AreBytes xs → AreBytes (drop n xs)
drop-bytes zero xs bytes i = bytes i
drop-bytes (suc n) [] bytes i = bytes i
drop-bytes (suc n) (x ∷ xs) bytes i = drop-bytes n xs (λ j. bytes (suc j)) i

pub read-2 : (xs : List ℕ) → 2 ≤ length xs → AreBytes xs → little_bytes 2 (little_number 2 xs) ≡ take 2 xs
read-2 xs enough bytes =
    let a = get_or-take 2 xs 0 0 (omega arith) in
    let b = get_or-take 2 xs 1 0 (omega arith) in
    le_bytes_2 (take 2 xs) (little_number 2 xs) (length-take-le 2 xs enough) (take-bytes 2 xs bytes) (omega (arith, a, b))

pub read-4 : (xs : List ℕ) → 4 ≤ length xs → AreBytes xs → little_bytes 4 (little_number 4 xs) ≡ take 4 xs
read-4 xs enough bytes =
    let a = get_or-take 4 xs 0 0 (omega arith) in
    let b = get_or-take 4 xs 1 0 (omega arith) in
    let c = get_or-take 4 xs 2 0 (omega arith) in
    let d = get_or-take 4 xs 3 0 (omega arith) in
    le_bytes_4 (take 4 xs) (little_number 4 xs) (length-take-le 4 xs enough) (take-bytes 4 xs bytes) (omega (arith, a, b, c, d))

pub read-8 : (xs : List ℕ) → 8 ≤ length xs → AreBytes xs → little_bytes 8 (little_number 8 xs) ≡ take 8 xs
read-8 xs enough bytes =
    let a = get_or-take 8 xs 0 0 (omega arith) in
    let b = get_or-take 8 xs 1 0 (omega arith) in
    let c = get_or-take 8 xs 2 0 (omega arith) in
    let d = get_or-take 8 xs 3 0 (omega arith) in
    let e = get_or-take 8 xs 4 0 (omega arith) in
    let f = get_or-take 8 xs 5 0 (omega arith) in
    let g = get_or-take 8 xs 6 0 (omega arith) in
    let h = get_or-take 8 xs 7 0 (omega arith) in
    le_bytes_8 (take 8 xs) (little_number 8 xs) (length-take-le 8 xs enough) (take-bytes 8 xs bytes) (omega (arith, a, b, c, d, e, f, g, h))

-- a head's numbers, one after the other
pub read-head : (xs : List ℕ) (a b c d : ℕ) → length xs ≡ 16 → AreBytes xs
    → a ≡ little_number 4 xs → b ≡ little_number 2 (drop 4 xs) → c ≡ little_number 2 (drop 6 xs) → d ≡ little_number 8 (drop 8 xs)
    → ((little_bytes 4 a ++ little_bytes 2 b) ++ little_bytes 2 c) ++ little_bytes 8 d ≡ xs
read-head xs a b c d size bytes first second third fourth =
    let one : little_bytes 4 a ≡ take 4 xs = ap (little_bytes 4) first ∙ read-4 xs (omega (arith, size)) bytes in
    let two : little_bytes 2 b ≡ take 2 (drop 4 xs) = ap (little_bytes 2) second ∙ read-2 (drop 4 xs) (omega (arith, size, length-drop 4 xs)) (drop-bytes 4 xs bytes) in
    let three : little_bytes 2 c ≡ take 2 (drop 6 xs) = ap (little_bytes 2) third ∙ read-2 (drop 6 xs) (omega (arith, size, length-drop 6 xs)) (drop-bytes 6 xs bytes) in
    let four : little_bytes 8 d ≡ take 8 (drop 8 xs) = ap (little_bytes 8) fourth ∙ read-8 (drop 8 xs) (omega (arith, size, length-drop 8 xs)) (drop-bytes 8 xs bytes) in
    let six : little_bytes 4 a ++ little_bytes 2 b ≡ take 6 xs =
    ap (λ (l : List ℕ). l ++ little_bytes 2 b) one ∙ ap (λ (l : List ℕ). take 4 xs ++ l) two ∙ sym (take-add 4 2 xs) in
    let eight : (little_bytes 4 a ++ little_bytes 2 b) ++ little_bytes 2 c ≡ take 8 xs =
    ap (λ (l : List ℕ). l ++ little_bytes 2 c) six ∙ ap (λ (l : List ℕ). take 6 xs ++ l) three ∙ sym (take-add 6 2 xs) in
    ap (λ (l : List ℕ). l ++ little_bytes 8 d) eight ∙ ap (λ (l : List ℕ). take 8 xs ++ l) four ∙ sym (take-add 8 8 xs) ∙ take_all 16 xs (omega (arith, size))

-- two numbers of eight bytes
pub read-two : (xs : List ℕ) (a b : ℕ) → length xs ≡ 16 → AreBytes xs → a ≡ little_number 8 xs → b ≡ little_number 8 (drop 8 xs)
    → little_bytes 8 a ++ little_bytes 8 b ≡ xs
read-two xs a b size bytes first second =
    let one : little_bytes 8 a ≡ take 8 xs = ap (little_bytes 8) first ∙ read-8 xs (omega (arith, size)) bytes in
    let two : little_bytes 8 b ≡ take 8 (drop 8 xs) = ap (little_bytes 8) second ∙ read-8 (drop 8 xs) (omega (arith, size, length-drop 8 xs)) (drop-bytes 8 xs bytes) in
    ap (λ (l : List ℕ). l ++ little_bytes 8 b) one ∙ ap (λ (l : List ℕ). take 8 xs ++ l) two ∙ sym (take-add 8 8 xs) ∙ take_all 16 xs (omega (arith, size))
