-- What the words of a slot hold, in the words of the definition of a sound image.
use Rattle.std.proofs.Common.{◌≡◌, ℕ, zero, suc, ◌+◌, ◌-◌, ◌*◌, ◌/◌, ◌%◌, ◌^◌, ◌<◌, ◌≤◌, true, false, ◌&&◌, ◌||◌, not, nat_eq, nat_lt, Option, Some, None, List, [], ◌∷◌, length, get_or, take, drop, refl, sym, ◌∙◌, ap, arith}
use Rattle.std.specs.Int.{to_le_bytes, w64}
use Rattle.std.specs.List.{list_all, flat_map}
use Rattle.std.proofs.lemmas.Bool.{eqb-true, ltb-false, le-ltb, eq-eqb, or_parts, and_parts, not-false}
use Rattle.std.proofs.lemmas.List.{get_or-drop, get_or-take, get_or_past, length-drop, length-take-le, ext_get_or}
use Rattle.std.proofs.lemmas.List.Concat.{get_or-flat_map}
use Rattle.base.specs.Layout.{row_limit, slot_start, slot_words, total_words, used_words}
use Rattle.base.proofs.Layouts.{few-words, row-fills, slot_within, used-hold, used-words}
use Rattle.base.specs.Images.{Image, layout_of, slot_word, key_of, len_of, link_of, used_of, bytes_of, row_of, is_misfit}
use Rattle.version_slot.specs.declared.words.Version.{Version}
use Rattle.version_slot.specs.Words.{link_number, slot_byte, IsVersion}
use Rattle.version_slot.proofs.Decoding.{words_3, byte_is, bytes_small, holds}

-- ---- slots by their words

flat_length : (xs : List ℕ) → length (flat_map (to_le_bytes w64) xs) ≡ 8 * length xs
flat_length [] = refl
flat_length (x ∷ xs) = omega (arith, flat_length xs)

flat_byte : (xs : List ℕ) (i : ℕ) → i / 8 < length xs → get_or (flat_map (to_le_bytes w64) xs) i 0 ≡ get_or (to_le_bytes w64 (get_or xs (i / 8) 0)) (i % 8) 0
flat_byte xs i lt =
    let before : length (flat_map (to_le_bytes w64) (take (i / 8) xs)) ≡ 8 * (i / 8) = omega (arith, flat_length (take (i / 8) xs), length-take-le (i / 8) xs (omega arith)) in
    let place : i ≡ length (flat_map (to_le_bytes w64) (take (i / 8) xs)) + i % 8 = omega arith in
    ap (λ (k : ℕ). get_or (flat_map (to_le_bytes w64) xs) k 0) place ∙ get_or-flat_map (to_le_bytes w64) xs (i / 8) (i % 8) 0 0 lt (omega arith)

module _ (image : Image) (slot : ℕ) (within : slot < (layout_of image).slots) (whole : total_words (layout_of image) ≤ length image) where
  abbrev from : ℕ
  from = slot_start (layout_of image) slot + 4

  abbrev many : ℕ
  many = slot_start (layout_of image) slot + used_of image slot - from

  fits : slot_start (layout_of image) slot + slot_words (layout_of image).version ≤ length image
  fits = omega (arith, slot_within (layout_of image) slot within, whole)

  few : many ≡ used_of image slot - 4
  few = omega (arith, (used-words (layout_of image).version (len_of image slot)).0)

  range_word : (k : ℕ) → k < used_of image slot - 4 → get_or (take many (drop from image)) k 0 ≡ slot_word image slot (4 + k)
  range_word k lt =
      let at : from + k ≡ slot_start (layout_of image) slot + (4 + k) = omega arith in
      get_or-take many (drop from image) k 0 (omega (arith, lt, few)) ∙ get_or-drop from image k 0 ∙ ap (λ (n : ℕ). get_or image n 0) at

  range_length : length (take many (drop from image)) ≡ used_of image slot - 4
  range_length =
      length-take-le many (drop from image) (omega (arith, few, length-drop {A = ℕ} from image, fits, (used-words (layout_of image).version (len_of image slot)).1)) ∙ few

  pub bytes_length : length (bytes_of image slot) ≡ 8 * (used_of image slot - 4)
  bytes_length = flat_length (take many (drop from image)) ∙ ap (λ (n : ℕ). 8 * n) range_length

  -- a byte of the slot's row words
  pub byte_of : (i : ℕ) → i / 8 < used_of image slot - 4 → get_or (bytes_of image slot) i 0 ≡ slot_byte (slot_word image slot) i
  byte_of i lt =
      flat_byte (take many (drop from image)) i (omega (arith, range_length, lt)) ∙ ap (λ (n : ℕ). get_or (to_le_bytes w64 n) (i % 8) 0) (range_word (i / 8) lt)

-- ---- the words of a version

all_zero : (xs : List ℕ) → ((i : ℕ) → i < length xs → get_or xs i 0 ≡ 0) → list_all (nat_eq 0) xs ≡ true
all_zero [] each = refl
all_zero (x ∷ xs) each = λ i. eq-eqb 0 x (sym (each 0 (omega arith))) i && all_zero xs (λ k lt. each (suc k) (omega arith)) i

zero_all : (xs : List ℕ) → list_all (nat_eq 0) xs ≡ true → (k : ℕ) → k < length xs → get_or xs k 0 ≡ 0
zero_all [] all k lt = refl
zero_all (x ∷ xs) all zero lt = sym (eqb-true 0 x (and_parts _ _ all).0)
zero_all (x ∷ xs) all (suc k) lt = zero_all xs (and_parts _ _ all).1 k (omega arith)

module _ (image : Image) (slot : ℕ) (within : slot < (layout_of image).slots) (whole : total_words (layout_of image) ≤ length image) where
  -- ---- a version that the words hold

  module _ (v : Version) (is : IsVersion (layout_of image) (slot_word image slot) v) where
    third : slot_word image slot 3 ≡ v.key.table + 2 ^ 16 * length v.row + 2 ^ 32 * link_number v.previous
    third = words_3 (layout_of image) (slot_word image slot) v is

    short : length v.row < 2 ^ 16
    short = omega (arith, is.fits.row, row-fills (layout_of image).version, few-words (layout_of image).version)

    pub len_is : len_of image slot ≡ length v.row
    len_is = omega (arith, third, is.fits.table, short)

    used_is : used_of image slot ≡ used_words (layout_of image).version (length v.row)
    used_is = ap (used_words (layout_of image).version) len_is

    held : length v.row ≤ 8 * (used_of image slot - 4)
    held = omega (arith, used-hold (layout_of image).version (length v.row) is.fits.row, used_is)

    pub link_of_is : link_of image slot ≡ link_number v.previous
    link_of_is = omega (arith, third, is.fits.table, short)

    pub key_is : key_of image slot ≡ v.key
    key_is =
        let table : slot_word image slot 3 % 2 ^ 16 ≡ v.key.table = omega (arith, third, is.fits.table) in
        let key : slot_word image slot 2 ≡ v.key.key = is.each 2 (omega arith) (omega (arith, (used-words (layout_of image).version (length v.row)).0)) in
        λ i. record { table = table i; key = key i }

    byte_of_row : (i : ℕ) → i / 8 < used_of image slot - 4 → get_or (bytes_of image slot) i 0 ≡ get_or v.row i 0
    byte_of_row i lt = byte_of image slot within whole i lt ∙ byte_is (layout_of image) (slot_word image slot) v is i (omega (arith, lt, used_is))

    pub row_is_of : row_of image slot ≡ v.row
    row_is_of =
        let size : length (row_of image slot) ≡ length v.row =
        length-take-le (len_of image slot) (bytes_of image slot) (omega (arith, len_is, bytes_length image slot within whole, held)) ∙ len_is in
        ext_get_or 0 (row_of image slot) v.row size (λ i lt.
        get_or-take (len_of image slot) (bytes_of image slot) i 0 (omega (arith, lt, size, len_is))
        ∙ byte_of_row i (omega (arith, lt, size, held)))

    zeros : (i : ℕ) → i < length (drop (len_of image slot) (bytes_of image slot)) → get_or (drop (len_of image slot) (bytes_of image slot)) i 0 ≡ 0
    zeros i lt =
        get_or-drop (len_of image slot) (bytes_of image slot) i 0
        ∙ byte_of_row (len_of image slot + i) (omega (arith, lt, length-drop {A = ℕ} (len_of image slot) (bytes_of image slot), bytes_length image slot within whole))
        ∙ get_or_past v.row (len_of image slot + i) 0 (omega (arith, len_is))

    pub well_formed : is_misfit image slot ≡ false
    well_formed =
        let row : nat_lt (row_limit (layout_of image).version) (len_of image slot) ≡ false = le-ltb (row_limit (layout_of image).version) (len_of image slot) (omega (arith, len_is, is.fits.row)) in
        let padding : not (list_all (nat_eq 0) (drop (len_of image slot) (bytes_of image slot))) ≡ false = ap not (all_zero (drop (len_of image slot) (bytes_of image slot)) zeros) in
        let linked : nat_lt (layout_of image).slots (link_of image slot) ≡ false = le-ltb (layout_of image).slots (link_of image slot) (omega (arith, link_of_is, is.fits.previous)) in
        λ i. row i || padding i || linked i

-- ---- the version of well-formed words

abbrev pub previous_in : ℕ → Option ℕ
previous_in zero = None
previous_in (suc slot) = Some slot

abbrev pub version_of : Image → ℕ → Version
version_of image slot = record { key = key_of image slot; row = row_of image slot; previous = previous_in (link_of image slot) }

pub link-previous_in : (n : ℕ) → link_number (previous_in n) ≡ n
link-previous_in a = grind (arith)

module _ (image : Image) (slot : ℕ) (within : slot < (layout_of image).slots) (whole : total_words (layout_of image) ≤ length image)
    (fit : (w : ℕ) → get_or image w 0 < 2 ^ 64) (well : is_misfit image slot ≡ false) where
  parts : (is_misfit image slot ≡ false) × (nat_lt (row_limit (layout_of image).version) (len_of image slot) ≡ false)
      × (not (list_all (nat_eq 0) (drop (len_of image slot) (bytes_of image slot))) ≡ false) × (nat_lt (layout_of image).slots (link_of image slot) ≡ false)
  parts = grind (arith, or_parts) steps 800000

  pub holds_version : IsVersion (layout_of image) (slot_word image slot) (version_of image slot)
  holds_version =
      let limit : ℕ = row_limit (layout_of image).version in
      let many : ℕ = 8 * (used_of image slot - 4) in
      let short : len_of image slot ≤ limit = ltb-false limit (len_of image slot) parts.1 in
      let zeros = zero_all (drop (len_of image slot) (bytes_of image slot)) (not-false _ parts.2) in
      let linked : link_of image slot ≤ (layout_of image).slots = ltb-false (layout_of image).slots (link_of image slot) parts.3 in
      let size : length (bytes_of image slot) ≡ many = bytes_length image slot within whole in
      let read : (i : ℕ) → i < many → get_or (bytes_of image slot) i 0 ≡ slot_byte (slot_word image slot) i = λ i lt. byte_of image slot within whole i (omega (arith, lt)) in
      holds (layout_of image) (slot_word image slot) (bytes_of image slot) (len_of image slot) size read (version_of image slot) (λ w. fit (slot_start (layout_of image) slot + w)) (bytes_small (slot_word image slot) (bytes_of image slot) many size read)
      refl short zeros refl refl refl (link-previous_in (link_of image slot)) linked
