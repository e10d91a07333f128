-- A row's text reads as the row, and no other text does.
use Rattle.std.proofs.Common.{◌≡◌, ◌≢◌, ℕ, zero, suc, nat_le, ◌-◌, ◌+◌, ◌*◌, ◌/◌, ◌%◌, ◌<◌, Bool, true, false, not, ◌&&◌, ◌||◌, ◌==◌, List, [], ◌∷◌, Option, Some, None, Result, Ok, length, slice_index, codes, refl, sym, ◌∙◌, ap, arith, is_some, unwrap_or, if◌then◌else◌}
use Rattle.std.proofs.lemmas.Bool.{cases_eq, eqb-true, not-true, or_parts, and_parts, false_from_ne_true}
use Rattle.std.proofs.lemmas.Slice.Eq.{bytes_eq-Decides}
use Rattle.std.proofs.lemmas.List.Sums.{AllPass-from_list_all, list_all-from_AllPass}
use Rattle.std.specs.Char.{is_ascii_hexdigit, is_ascii_uppercase}
use Rattle.std.specs.List.{list_all, list_any}
use Rattle.std.specs.Result.{result_ok, result_unwrap_or}
use Rattle.std.specs.Str.{bytes_eq}
use Rattle.hex.specs.declared.error.FromHexError.{FromHexError}
use Rattle.hex.specs.Hex.{IsBytes, decode_of, decode_pairs, digit_or_error, encode_lower, encode_with, hex_digit_value, is_hex_digit, lower_digits, pair_value, value_at, ◌>>=◌}
use Rattle.hex.proofs.HexLemmas.{decode_of-digits, decode_of-encode_lower, decode_of-even, decode_of-ok, length-encode_with}
use Rattle.command_line.specs.Numbers.{Text}
use Rattle.command_line.specs.Rows.{IsNoRow, row_of, row_text}

-- a test of all numbers below n
abbrev all_below : ℕ → (ℕ → Bool) → Bool
all_below zero p = true
all_below (suc n) p = p n && all_below n p

all_below-at : (n : ℕ) (p : ℕ → Bool) (k : ℕ) → k < n → all_below n p ≡ true → p k ≡ true
all_below-at zero p k lt h = absurd (omega arith)
all_below-at (suc n) p k lt h = grind (arith, and_parts, cases_eq, all_below-at n p k)

-- the digit of a value is the character that has it, unless that is in upper case
abbrev is_digit_back : ℕ → Bool
is_digit_back c =
    if is_ascii_uppercase c then true
    else (if is_some (hex_digit_value c) then slice_index lower_digits (unwrap_or (hex_digit_value c) 0) == c else true)

digit_back : (c v : ℕ) → hex_digit_value c ≡ Some v → is_ascii_uppercase c ≡ false → slice_index lower_digits v ≡ c
digit_back c v h low =
    let small : c < 103 = grind (arith) in
    let test : is_digit_back c ≡ true = all_below-at 103 is_digit_back c small refl in
    let narrowed : (if is_some (hex_digit_value c) then slice_index lower_digits (unwrap_or (hex_digit_value c) 0) == c else true) ≡ true = rw low at test in
    let same : (slice_index lower_digits v == c) ≡ true = rw h at narrowed in
    eqb-true (slice_index lower_digits v) c same

abbrev is_lower_digit_at : ℕ → Bool
is_lower_digit_at d = not (is_ascii_uppercase (slice_index lower_digits d))

digit_is_lower : (d : ℕ) → d < 16 → is_ascii_uppercase (slice_index lower_digits d) ≡ false
digit_is_lower d lt = not-true _ (all_below-at 16 is_lower_digit_at d lt refl)

bind_ok : {A B : Type 0} (r : Result A FromHexError) (f : A → Result B FromHexError) (y : B)
    → (r >>= f) ≡ Ok y → (x : A) × (r ≡ Ok x) × (f x ≡ Ok y)
bind_ok a f y h = grind (arith)

digit_read : (c i : ℕ) (o : Option ℕ) (v : ℕ) → digit_or_error c i o ≡ Ok v → o ≡ Some v
digit_read c i a v h = grind (arith)

digit-small : (c v : ℕ) → hex_digit_value c ≡ Some v → v < 16
digit-small c v h = grind (arith)

-- lower case digits are those of the bytes that they decode to
encode-decode_pairs : (i : ℕ) (s bytes : List ℕ) → decode_pairs i s ≡ Ok bytes → list_any is_ascii_uppercase s ≡ false → encode_lower bytes ≡ s
unfolding decode_pairs encode_with
encode-decode_pairs i [] bytes h low =
    let e : [] ≡ bytes = ap (λ (r : Result (List ℕ) FromHexError). result_unwrap_or r []) h in
    rw (← e) refl
encode-decode_pairs i (a ∷ []) bytes h low = cc h
encode-decode_pairs i (a ∷ b ∷ rest) bytes h low =
    let p0 = bind_ok (pair_value a b i) _ bytes h in
    let p1 = bind_ok (value_at a i) _ p0.0 p0.1 in
    let p2 = bind_ok (value_at b (i + 1)) _ p0.0 p1.2 in
    let p3 = bind_ok (decode_pairs (i + 2) rest) _ bytes p0.2 in
    let e : p0.0 ∷ p3.0 ≡ bytes = ap (λ (r : Result (List ℕ) FromHexError). result_unwrap_or r []) p3.2 in
    let l0 = or_parts (is_ascii_uppercase a) _ low in
    let l1 = or_parts (is_ascii_uppercase b) _ l0.1 in
    let ih = encode-decode_pairs (i + 2) rest p3.0 p3.1 l1.1 in
    let va = digit_read a i (hex_digit_value a) p1.0 p1.1 in
    let vb = digit_read b (i + 1) (hex_digit_value b) p2.0 p2.1 in
    let byte : p1.0 * 16 + p2.0 ≡ p0.0 = ap (λ (r : Result ℕ FromHexError). result_unwrap_or r 0) p2.2 in
    let sa = digit-small a p1.0 va in
    let sb = digit-small b p2.0 vb in
    let high : p0.0 / 16 ≡ p1.0 = omega arith in
    let low_half : p0.0 % 16 ≡ p2.0 = omega arith in
    let da : slice_index lower_digits (p0.0 / 16) ≡ a = rw high (digit_back a p1.0 va l0.0) in
    let db : slice_index lower_digits (p0.0 % 16) ≡ b = rw low_half (digit_back b p2.0 vb l1.0) in
    rw (← e) (ap (λ x. x ∷ slice_index lower_digits (p0.0 % 16) ∷ encode_lower p3.0) da ∙ (ap (λ x. a ∷ x ∷ encode_lower p3.0) db ∙ ap (λ xs. a ∷ b ∷ xs) ih))

encode-decode : (s bytes : List ℕ) → decode_of s ≡ Ok bytes → list_any is_ascii_uppercase s ≡ false → encode_lower bytes ≡ s
encode-decode s bytes h low =
    encode-decode_pairs 0 s bytes (sym (decode_of-even s (decode_of-ok s bytes h).0) ∙ h) low

result_was : (r : Result (List ℕ) FromHexError) (bytes : List ℕ) → result_ok r ≡ Some bytes → r ≡ Ok bytes
result_was a bytes h = grind (arith)

text_of_digits : (text bytes : List ℕ) → length text ≢ 0 → decode_of text ≡ Ok bytes → list_any is_ascii_uppercase text ≡ false → text ≡ row_text bytes
text_of_digits text [] some h low = let size = (decode_of-ok text [] h).2 in absurd (some (omega (arith, size)))
text_of_digits text (byte ∷ bytes) some h low = sym (encode-decode text (byte ∷ bytes) h low)

spelled_by : (text bytes : List ℕ) (dash bad : Bool) → (dash ≡ true → text ≡ codes "-")
    → (bad ≡ false → (length text ≢ 0) × (list_any is_ascii_uppercase text ≡ false))
    → (if dash then Some [] else if bad then None else result_ok (decode_of text)) ≡ Some bytes → text ≡ row_text bytes
spelled_by text bytes a bad d b h = grind (arith, text_of_digits, result_was)

-- the row that is read is the one that is written
pub row_of-spelled : (text bytes : List ℕ) → row_of text ≡ Some bytes → text ≡ row_text bytes
row_of-spelled text bytes h = grind (arith, spelled_by, bytes_eq-Decides, or_parts)

no_upper_case : (bytes : List ℕ) → IsBytes bytes → list_any is_ascii_uppercase (encode_lower bytes) ≡ false
unfolding encode_with
no_upper_case [] h = refl
no_upper_case (b ∷ rest) h =
    let fits : b < 256 = h 0 in
    let high : is_ascii_uppercase (slice_index lower_digits (b / 16)) ≡ false = digit_is_lower (b / 16) (omega arith) in
    let low : is_ascii_uppercase (slice_index lower_digits (b % 16)) ≡ false = digit_is_lower (b % 16) (omega arith) in
    let ih = no_upper_case rest (λ k. h (suc k)) in
    rw (high, low, ih) refl

-- the text of a row is read as the row
pub row_of-row_text : (bytes : List ℕ) → IsBytes bytes → row_of (row_text bytes) ≡ Some bytes
row_of-row_text [] h = refl
row_of-row_text (b ∷ rest) h = grind (arith, length-encode_with, false_from_ne_true, bytes_eq-Decides, eqb-true, no_upper_case, decode_of-encode_lower)

pub no_row : (text : Text) → row_of text ≡ None → IsNoRow text
no_row text none bytes h e = grind (arith, row_of-row_text)

-- ---- the test before memory is needed

one_of_three : (a b d : Bool) (x y z : ℕ) → is_some (if a then Some x else if b then Some y else if d then Some z else None) ≡ ((d || a) || b)
one_of_three a b d x y z = grind (arith)

hex_digit-same : (c : ℕ) → is_hex_digit c ≡ is_ascii_hexdigit c
hex_digit-same c = one_of_three (nat_le 65 c && nat_le c 70) (nat_le 97 c && nat_le c 102) (nat_le 48 c && nat_le c 57) (c - 55) (c - 87) (c - 48)

all-same : {A : Type 0} (p q : A → Bool) → ((x : A) → p x ≡ q x) → (xs : List A) → list_all p xs ≡ list_all q xs
all-same p q same [] = refl
all-same p q same (x ∷ xs) = rw (same x, all-same p q same xs) refl

-- the text is an even number of hex digits
abbrev pub is_hex : Text → Bool
is_hex text = length text % 2 == 0 && list_all is_ascii_hexdigit text

decodes : (text : Text) → is_hex text ≡ true → (bytes : List ℕ) × (decode_of text ≡ Ok bytes)
decodes text h =
    let parts = and_parts (length text % 2 == 0) (list_all is_ascii_hexdigit text) h in
    decode_of-digits text (eqb-true (length text % 2) 0 parts.0)
    (AllPass-from_list_all is_hex_digit text (all-same is_hex_digit is_ascii_hexdigit hex_digit-same text ∙ parts.1))

is_hex-of : (text bytes : List ℕ) → decode_of text ≡ Ok bytes → is_hex text ≡ true
is_hex-of text bytes h =
    let ok = decode_of-ok text bytes h in
    let digits : list_all is_ascii_hexdigit text ≡ true = sym (all-same is_hex_digit is_ascii_hexdigit hex_digit-same text) ∙ list_all-from_AllPass is_hex_digit text ok.1 in
    rw (ok.0, digits) refl

undecoded : (text : Text) (r : Result (List ℕ) FromHexError) → decode_of text ≡ r → is_hex text ≡ false → result_ok r ≡ None
undecoded text a is bad = grind (arith, is_hex-of)

row_by : (dash bad : Bool) (r : Result (List ℕ) FromHexError) (o : Option (List ℕ)) → dash ≡ false → bad ≡ false → result_ok r ≡ o
    → (if dash then Some [] else if bad then None else result_ok r) ≡ o
row_by a bad r o d b h = grind (arith)

-- a text that isn't one isn't a row
pub no_hex-no_row : (text : Text) → bytes_eq text (codes "-") ≡ false → (length text == 0 || list_any is_ascii_uppercase text) ≡ false → is_hex text ≡ false
    → row_of text ≡ None
no_hex-no_row text dash bad odd = row_by (bytes_eq text (codes "-")) (length text == 0 || list_any is_ascii_uppercase text) (decode_of text) None dash bad (undecoded text (decode_of text) refl odd)

-- one that is, in lower case, is a row
pub hex-row : (text : Text) → bytes_eq text (codes "-") ≡ false → (length text == 0 || list_any is_ascii_uppercase text) ≡ false → is_hex text ≡ true
    → is_some (row_of text) ≡ true
hex-row text dash bad is = grind (arith, decodes, row_by)

-- a text that is empty, or has an upper case letter, is none either
pub bad-no_row : (text : Text) → bytes_eq text (codes "-") ≡ false → (length text == 0 || list_any is_ascii_uppercase text) ≡ true → row_of text ≡ None
bad-no_row text dash bad = rw (dash, bad) refl
