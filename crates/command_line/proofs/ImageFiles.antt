-- What reading the words of a file leaves, and that the words written are those that are read.
use Rattle.std.proofs.Common.{◌≡◌, ℕ, zero, suc, ◌+◌, ◌*◌, ◌^◌, ◌<◌, ◌∙◌, refl, sym, ap, arith, List, [], ◌∷◌, ◌++◌, length, take, drop, slice_index}
use Rattle.std.proofs.lemmas.List.{take-append-le, length-append}
use Rattle.std.proofs.Math.Seq.{take-length, drop-append-add}
use Rattle.byteorder.specs.Endian.{IsRead, little_number, little_bytes}
use Rattle.byteorder.specs.Numbers.{little_number-reads_back, length-bytes_low_first}
use Rattle.command_line.specs.ImageFile.{HoldsWords, bytes_of_words}

-- all the room is filled, so nothing of what it held is left
pub holds_words : (file words old : List ℕ) (n : ℕ) → length words ≡ n → length file ≡ 8 * n → IsRead little_number 8 file words
    → HoldsWords file (take n (words ++ drop (length words) old))
holds_words file words old n len size read = grind (arith, take-append-le, take-length)

-- the bytes of these words are eight for each
bytes-size : (words : List ℕ) → length (bytes_of_words words) ≡ 8 * length words
bytes-size [] = refl
bytes-size (word ∷ words) = grind (arith, bytes-size words, length-append)

-- from each word on they are that word's
bytes-at : (words : List ℕ) → ((k : ℕ) → k < length words → slice_index words k < 2 ^ 64)
    → (k : ℕ) → k < length words → slice_index words k ≡ little_number 8 (drop (8 * k) (bytes_of_words words))
bytes-at [] small k h = absurd (omega (arith, h))
bytes-at (word ∷ words) small zero h = sym (little_number-reads_back 8 word (bytes_of_words words) (small 0 h))
bytes-at (word ∷ words) small (suc k) h =
    let here = bytes-at words (λ j lt. small (suc j) (omega (arith, lt))) k (omega (arith, h)) in
    let one : length (little_bytes 8 word) ≡ 8 = length-bytes_low_first 0 8 word in
    let on : 8 * suc k ≡ length (little_bytes 8 word) + 8 * k = omega arith in
    here ∙ ap (little_number 8) (sym (drop-append-add (little_bytes 8 word) (bytes_of_words words) (8 * k))) ∙ ap (λ (n : ℕ). little_number 8 (drop n (bytes_of_words (word ∷ words)))) (sym on)

-- the bytes of words below 2^64 hold them
pub bytes-hold : (words : List ℕ) → ((k : ℕ) → k < length words → slice_index words k < 2 ^ 64) → HoldsWords (bytes_of_words words) words
bytes-hold words small = record { size = bytes-size words; each = bytes-at words small }
