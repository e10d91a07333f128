-- What the reading of a number keeps.
use Rattle.std.proofs.Common.{◌≡◌, ℕ, ◌+◌, ◌*◌, ◌<◌, ◌≤◌, List, [], ◌∷◌, length, true, Some, None, drop, arith}
use Rattle.std.proofs.Common.{get_or}
use Rattle.std.proofs.Math.Seq.{drop-cons}
use Rattle.std.proofs.lemmas.Bool.Decides.{nat_tests}
use Rattle.std.specs.Char.{digit_value}
use Rattle.std.specs.Str.{all_ascii_digits}
use Rattle.std.specs.Str.Parse.{digits_value, digits_value_after}
use Rattle.command_line.specs.Numbers.{Text, number_below}

-- more digits make no smaller number
pub le-digits_value_after : (n : ℕ) (ds : List ℕ) → n ≤ digits_value_after 10 n ds
le-digits_value_after n [] = omega arith
le-digits_value_after n (d ∷ ds) = omega (arith, le-digits_value_after (n * 10 + digit_value d) ds)

pub number_below-large : (word : Text) (most : ℕ) → most ≤ digits_value 10 word → number_below most word ≡ None
number_below-large word most h = grind (arith, nat_tests)

pub number_below-digits : (word : Text) (most n : ℕ) → 0 < length word → length word ≤ 20 → all_ascii_digits word ≡ true → digits_value 10 word ≡ n → n < most
    → number_below most word ≡ Some n
number_below-digits word most n some few digits e h = grind (arith, nat_tests)

-- the number is at least what its digits so far and the next one write
pub next-le-digits_value : (v i : ℕ) (w : Text) → i < length w → digits_value_after 10 v (drop i w) ≡ digits_value 10 w
    → v * 10 + digit_value (get_or w i 0) ≤ digits_value 10 w
next-le-digits_value v i w lt e = grind (arith, drop-cons, le-digits_value_after)
