-- Words as bytes, and read again.
use Rattle.std.proofs.Common.{◌≡◌, ℕ, zero, suc, ◌+◌, ◌*◌, ◌<◌, ◌^◌, List, [], ◌∷◌, ◌++◌, length, drop, get_or, sym, ◌∙◌, ap, arith}
use Rattle.std.proofs.lemmas.List.{append_assoc, drop-drop, drop_at}
use Rattle.std.specs.List.{flat_map}
use Rattle.byteorder.specs.Endian.{IsRead, little_bytes, little_number}
use Rattle.byteorder.specs.Numbers.{length-bytes_low_first, little_number-reads_back}

abbrev pub bytes : List ℕ → List ℕ
bytes words = flat_map (little_bytes 8) words

pub bytes-read : (words rest : List ℕ) → ((k : ℕ) → k < length words → get_or words k 0 < 2 ^ 64) → IsRead little_number 8 (bytes words ++ rest) words
bytes-read [] rest fits k lt = absurd (omega (arith, lt))
bytes-read (word ∷ words) rest fits zero lt =
    sym (little_number-reads_back 8 word (bytes words ++ rest) (fits 0 (omega arith)))
    ∙ ap (λ (l : List ℕ). little_number 8 l) (sym (append_assoc (little_bytes 8 word) (bytes words) rest))
bytes-read (word ∷ words) rest fits (suc k) lt =
    let all : List ℕ = little_bytes 8 word ++ bytes words ++ rest in
    let eight : drop 8 all ≡ bytes words ++ rest =
    ap (λ (l : List ℕ). drop 8 l) (append_assoc (little_bytes 8 word) (bytes words) rest) ∙ drop_at (little_bytes 8 word) (bytes words ++ rest) 8 (length-bytes_low_first 0 8 word) in
    let count : 8 + 8 * k ≡ 8 * suc k = omega arith in
    let skip : drop (8 * k) (bytes words ++ rest) ≡ drop (8 * suc k) all =
    ap (λ (l : List ℕ). drop (8 * k) l) (sym eight) ∙ drop-drop (8 * k) 8 all ∙ ap (λ (n : ℕ). drop n all) count in
    bytes-read words rest (λ j below. fits (suc j) (omega (arith, below))) k (omega (arith, lt)) ∙ ap (λ (l : List ℕ). little_number 8 l) skip
