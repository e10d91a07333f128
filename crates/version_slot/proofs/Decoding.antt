-- Words and the version that they hold.
use Rattle.std.proofs.Common.{◌≡◌, inl, inr, ℕ, zero, suc, ◌+◌, ◌-◌, ◌*◌, ◌/◌, ◌%◌, ◌^◌, ◌<◌, ◌≤◌, List, length, get_or, set, take, drop, map, sym, ◌∙◌, ap, subst, arith, lit<}
use Rattle.std.specs.Int.{byte_at, bytes_low_first, from_le_bytes, to_le_bytes, w64}
use Rattle.std.specs.List.{range_with_len}
use Rattle.std.proofs.lemmas.Bool.{cases_eq, cases_lt, ne_eqb}
use Rattle.std.proofs.lemmas.List.{get_or-drop, get_or-take, get_or_past, get_or-set_same, get_or-set_other, length-drop, length-take-le}
use Rattle.std.proofs.lemmas.List.FromFn.{get_or-map-range_with_len, length-map-range_with_len}
use Rattle.std.proofs.lemmas.Nat.{le_bytes_8, mod_below, from_le_bytes-to_le_bytes_8}
use Rattle.base.specs.Layout.{Layout, used_words, row_limit}
use Rattle.base.proofs.Layouts.{few-words, row-fills, used-words, used-hold}
use Rattle.version_slot.specs.declared.words.Version.{Version}
use Rattle.version_slot.specs.Words.{link_number, row_word, slot_byte, version_word, length_in, IsVersion}

-- eight bytes make the number
pub same_word : (xs ys : List ℕ) → ((i : ℕ) → i < 8 → get_or xs i 0 ≡ get_or ys i 0) → from_le_bytes w64 xs ≡ from_le_bytes w64 ys
same_word xs ys same = grind (arith) steps 800000

-- what eight bytes make determines them
bytes_back : (n : ℕ) (f : ℕ → ℕ) → ((i : ℕ) → f i < 256) → n ≡ from_le_bytes w64 (map f (range_with_len 0 8)) → (i : ℕ) → i < 8 → get_or (to_le_bytes w64 n) i 0 ≡ f i
bytes_back n f small is i lt = grind (arith, le_bytes_8, length-map-range_with_len, get_or-map-range_with_len, cases_lt, get_or_past)

-- each byte of the row, and 0 after it, is in the words
pub row_byte : (row : List ℕ) (words : ℕ → ℕ) (last i : ℕ) → ((k : ℕ) → k < last → words (4 + k) ≡ row_word row k) → ((k : ℕ) → get_or row k 0 < 256) → i / 8 < last → slot_byte words i ≡ get_or row i 0
row_byte row words last i each small lt =
    bytes_back (words (4 + i / 8)) (λ j. get_or row (8 * (i / 8) + j) 0) (λ j. small (8 * (i / 8) + j))
    (each (i / 8) lt
    ∙ same_word (drop (8 * (i / 8)) row) (map (λ (j : ℕ). get_or row (8 * (i / 8) + j) 0) (range_with_len 0 8)) (λ j j_lt.
    get_or-drop (8 * (i / 8)) row j 0 ∙ sym (get_or-map-range_with_len (λ (k : ℕ). get_or row (8 * (i / 8) + k) 0) 0 8 j j 0 j_lt (omega arith)))) (i % 8) (omega arith)
    ∙ ap (λ (k : ℕ). get_or row k 0) (let e : 8 * (i / 8) + i % 8 ≡ i = omega arith in e)

pub word_past : (v : Version) (k : ℕ) → version_word v (4 + k) ≡ row_word v.row k
word_past v k = grind (arith, ne_eqb)

-- ---- words that hold a version

module _ (layout : Layout) (words : ℕ → ℕ) (v : Version) (is : IsVersion layout words v) where
  abbrev used : ℕ
  used = used_words layout.version (length v.row)

  some : 4 ≤ used
  some = (used-words layout.version (length v.row)).0

  pub words_3 : words 3 ≡ v.key.table + 2 ^ 16 * length v.row + 2 ^ 32 * link_number v.previous
  words_3 = is.each 3 (omega arith) (omega (arith, some))

  pub row_words : (k : ℕ) → k + 4 < used → words (4 + k) ≡ row_word v.row k
  row_words k lt = is.each (4 + k) (omega arith) (omega (arith, lt)) ∙ word_past v k

  pub byte_is : (i : ℕ) → i / 8 + 4 < used → slot_byte words i ≡ get_or v.row i 0
  byte_is i lt = row_byte v.row words (used - 4) i (λ k k_lt. row_words k (omega (arith, k_lt))) is.fits.bytes (omega (arith, lt))

  pub link_is : length v.row < 2 ^ 16 → words 3 / 2 ^ 32 ≡ link_number v.previous
  link_is short = omega (arith, words_3, is.fits.table, short)

  pub length_is : length v.row < 2 ^ 16 → length_in words ≡ length v.row
  length_is short = omega (arith, words_3, is.fits.table, short)

-- ---- a loop that fills a list

pub set_from : (f : ℕ → ℕ) (xs : List ℕ) (first i x : ℕ) → i < length xs → x ≡ f i → ((k : ℕ) → first ≤ k → k < i → get_or xs k 0 ≡ f k) → (k : ℕ) → first ≤ k → k < i + 1 → get_or (set xs i x) k 0 ≡ f k
set_from f xs first i x lt is before k from k_lt = grind (arith, cases_eq, get_or-set_same, get_or-set_other)

-- ---- words read

-- bytes of the words that a row of this length counts
module _ (layout : Layout) (words : ℕ → ℕ) (bytes : List ℕ) (n : ℕ) (size : length bytes ≡ 8 * (used_words layout.version n - 4)) (read : (i : ℕ) → i < 8 * (used_words layout.version n - 4) → get_or bytes i 0 ≡ slot_byte words i) where
  abbrev count : ℕ
  count = used_words layout.version n

  module _ (v : Version) (fit : (w : ℕ) → words w < 2 ^ 64) (small : (i : ℕ) → get_or bytes i 0 < 2 ^ 8)
      (n_is : n ≡ length_in words) (short : n ≤ row_limit layout.version) (zeros : (i : ℕ) → i < length (drop n bytes) → get_or (drop n bytes) i 0 ≡ 0)
      (key : v.key.key ≡ words 2) (table : v.key.table ≡ words 3 % 2 ^ 16) (row : v.row ≡ take n bytes) (link : link_number v.previous ≡ words 3 / 2 ^ 32) (linked : words 3 / 2 ^ 32 ≤ layout.slots) where
    row_size : length v.row ≡ n
    row_size = ap (length {A = ℕ}) row ∙ length-take-le n bytes (omega (arith, size, used-hold layout.version n short))

    row_is : (i : ℕ) → i < 8 * (count - 4) → get_or v.row i 0 ≡ get_or bytes i 0
    row_is i lt = elim (cases_lt i n) [
      | inl below ↦ ap (λ (l : List ℕ). get_or l i 0) row ∙ get_or-take n bytes i 0 below
      | inr above ↦
          let at : n + (i - n) ≡ i = omega (arith, above) in
          get_or_past v.row i 0 (omega (arith, row_size, above)) ∙ sym (zeros (i - n) (omega (arith, length-drop {A = ℕ} n bytes, size, lt, above))) ∙ get_or-drop n bytes (i - n) 0 ∙ ap (λ (k : ℕ). get_or bytes k 0) at
    ]

    word_is : (k : ℕ) → k + 4 < count → words (4 + k) ≡ row_word v.row k
    word_is k lt =
        sym (from_le_bytes-to_le_bytes_8 (words (4 + k)) (fit (4 + k)))
        ∙ same_word (to_le_bytes w64 (words (4 + k))) (drop (8 * k) v.row) (λ i i_lt.
        let place : (8 * k + i) / 8 ≡ k = omega (arith, i_lt) in
        let rest : (8 * k + i) % 8 ≡ i = omega (arith, i_lt) in
        ap (λ (j : ℕ). get_or (to_le_bytes w64 (words (4 + k))) j 0) (sym rest) ∙ ap (λ (j : ℕ). get_or (to_le_bytes w64 (words (4 + j))) ((8 * k + i) % 8) 0) (sym place)
        ∙ sym (read (8 * k + i) (omega (arith, lt, i_lt))) ∙ sym (row_is (8 * k + i) (omega (arith, lt, i_lt))) ∙ sym (get_or-drop (8 * k) v.row i 0))

    header_is : words 3 ≡ v.key.table + 2 ^ 16 * length v.row + 2 ^ 32 * link_number v.previous
    header_is = omega (arith, row_size, n_is, table, link, short, row-fills layout.version, few-words layout.version)

    each : (w : ℕ) → 2 ≤ w → w < count → words w ≡ version_word v w
    each w from to = elim (cases_lt w 4) [
      | inl low ↦ elim (cases_eq w 2) [
        | inl is ↦ subst (λ (i : ℕ). words i ≡ version_word v i) (sym is) (sym key)
        | inr apart ↦ subst (λ (i : ℕ). words i ≡ version_word v i) (let is : 3 ≡ w = omega arith in is) header_is
      ]
      | inr high ↦
          subst (λ (i : ℕ). words i ≡ version_word v i) (let is : 4 + (w - 4) ≡ w = omega arith in is) (word_is (w - 4) (omega arith) ∙ sym (word_past v (w - 4)))
    ]

    row_small : (i : ℕ) → get_or v.row i 0 < 2 ^ 8
    row_small i = elim (cases_lt i (8 * (count - 4))) [
      | inl within ↦ subst (λ (x : ℕ). x < 2 ^ 8) (sym (row_is i within)) (small i)
      | inr past ↦ subst (λ (x : ℕ). x < 2 ^ 8) (sym (get_or_past v.row i 0 (omega (arith, row_size, past, used-hold layout.version n short)))) (lit< tt)
    ]

    pub holds : IsVersion layout words v
    holds = record {
      each = λ w from to. each w from (subst (λ (m : ℕ). w < used_words layout.version m) row_size to);
      fits = record {
        table = omega (arith, table);
        row = omega (arith, row_size, short);
        bytes = row_small;
        previous = omega (arith, link, linked);
      };
    }

-- ---- bytes are small

byte_small : (i n : ℕ) → byte_at i n < 256
byte_small a n = grind (arith, mod_below)

low_small : (i k n j : ℕ) → get_or (bytes_low_first i k n) j 0 < 256
low_small i zero n j = lit< tt
low_small i (suc k) n zero = byte_small i n
low_small i (suc k) n (suc j) = low_small (suc i) k n j

pub slot_byte_small : (words : ℕ → ℕ) (i : ℕ) → slot_byte words i < 256
slot_byte_small words i = low_small 0 8 (words (4 + i / 8)) (i % 8)

pub bytes_small : (words : ℕ → ℕ) (bytes : List ℕ) (size : ℕ) → length bytes ≡ size → ((i : ℕ) → i < size → get_or bytes i 0 ≡ slot_byte words i) → (i : ℕ) → get_or bytes i 0 < 2 ^ 8
bytes_small words bytes size whole read i = elim (cases_lt i size) [
  | inl within ↦ subst (λ (x : ℕ). x < 2 ^ 8) (sym (read i within)) (slot_byte_small words i)
  | inr past ↦ subst (λ (x : ℕ). x < 2 ^ 8) (sym (get_or_past bytes i 0 (omega arith))) (lit< tt)
]

-- the bytes that count, of those of the widest slot
module _ (count : ℕ) (few : count ≤ 64) (bytes : List ℕ) (whole : length bytes ≡ 480) where
  pub used_size : length (take (8 * (count - 4)) bytes) ≡ 8 * (count - 4)
  used_size = length-take-le (8 * (count - 4)) bytes (omega (arith, whole, few))

  pub used_read : (words : ℕ → ℕ) → ((i : ℕ) → i < 8 * (count - 4) → get_or bytes i 0 ≡ slot_byte words i) → (i : ℕ) → i < 8 * (count - 4) → get_or (take (8 * (count - 4)) bytes) i 0 ≡ slot_byte words i
  used_read words read i lt = get_or-take (8 * (count - 4)) bytes i 0 lt ∙ read i lt
