use Rattle.std.proofs.Common.{◌≡◌, ◌<◌, ◌^◌, drop}
use Rattle.std.specs.Str.{all_ascii_digits}
use Rattle.std.specs.Str.Parse.{digits_value, digits_value_after}
use Rattle.command_line.proofs.number.number.Given as goal

-- what is left decides whether all are digits, and goes on from the value so far
abbrev pub invariant-loop-digit : goal.invariant-loop-digit
invariant-loop-digit l = record {
  fits : l.value < 2 ^ 64;
  digits : all_ascii_digits (drop l.digit-index l.word) ≡ all_ascii_digits l.word;
  so_far : digits_value_after 10 l.value (drop l.digit-index l.word) ≡ digits_value 10 l.word;
}
