-- Numbers as words write them.
use Rattle.std.specs.Prelude.{ℕ, List, Bool, Option, Some, None, length, not, ◌==◌, ◌&&◌, nat_le, nat_lt, if◌then◌else◌}
use Rattle.std.specs.Str.{all_ascii_digits}
use Rattle.std.specs.Str.Parse.{digits_value}

-- the bytes of a text
abbrev pub Text : Type 0
Text = List ℕ

-- 1 to 20 decimal digits, without a sign
abbrev pub is_number_text : Text → Bool
is_number_text text = not (length text == 0) && (nat_le (length text) 20 && all_ascii_digits text)

-- The number that a word writes, if it is below the limit.
-- Excluded: a sign; a number that wraps.
abbrev pub number_below : ℕ → Text → Option ℕ
number_below limit text =
    if is_number_text text && nat_lt (digits_value 10 text) limit then Some (digits_value 10 text) else None
