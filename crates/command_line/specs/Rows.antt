-- Rows as text.
use Rattle.std.specs.Prelude.{◌≢◌, ℕ, List, [], ◌∷◌, Option, Some, None, length, ◌==◌, ◌||◌, codes, if◌then◌else◌}
use Rattle.std.specs.List.{list_any}
use Rattle.std.specs.Char.{is_ascii_uppercase}
use Rattle.std.specs.Str.{bytes_eq}
use Rattle.std.specs.Result.{result_ok}
use Rattle.hex.specs.Hex.{IsBytes, decode_of, encode_lower}
use Rattle.command_line.specs.Numbers.{Text}

-- the text of a row: two lower case hex digits a byte, or `-` for the row without bytes
abbrev pub row_text : List ℕ → Text
row_text [] = codes "-"
row_text (byte ∷ bytes) = encode_lower (byte ∷ bytes)

-- The row that a word writes, if it writes one.
-- Excluded: digits in upper case; a row that is cut short.
abbrev pub row_of : Text → Option (List ℕ)
row_of text =
    if bytes_eq text (codes "-") then Some []
    else if length text == 0 || list_any is_ascii_uppercase text then None
    else result_ok (decode_of text)

-- no row of bytes has this text
abbrev pub IsNoRow : Text → Type 0
IsNoRow text = (bytes : List ℕ) → IsBytes bytes → text ≢ row_text bytes
