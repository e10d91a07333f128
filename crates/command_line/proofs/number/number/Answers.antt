use Rattle.std.proofs.Common.{rules, arith, ◌≡◌, ◌∙◌, sym, get_or}
use Rattle.std.proofs.lemmas.Grind.{common_steps}
use Rattle.std.specs.Char.{digit_value}
use Rattle.command_line.proofs.Numbers.{next-le-digits_value, number_below-large, number_below-digits}
use Rattle.command_line.proofs.number.number.Goals as goal

pub returns-in_err-checked_mul : goal.returns-in_err-checked_mul
returns-in_err-checked_mul c =
    let w = c.args.word.now in
    let over = c.in_err-checked_mul.ensures in
    let least = next-le-digits_value c.loop-digit.value c.loop-digit.digit-index w (search rules) c.loop-digit.invariant.so_far in
    c.from_residual.ensures ∙ sym (number_below-large w 18446744073709551616 (omega (arith, over, least)))

pub returns-in_err-value : goal.returns-in_err-value
returns-in_err-value c =
    let w = c.args.word.now in
    let over = c.in_err-value.ensures in
    let times = c.in_ok-checked_mul.ensures.1 in
    let digit : digit_value (get_or w c.loop-digit.digit-index 0) ≡ c.from.result = grind (arith, common_steps) in
    let least = next-le-digits_value c.loop-digit.value c.loop-digit.digit-index w (search rules) c.loop-digit.invariant.so_far in
    c.from_residual-in_err-value.ensures ∙ sym (number_below-large w 18446744073709551616 (omega (arith, over, least, times, digit)))

pub returns : goal.returns
returns c =
    let w = c.args.word.now in
    let i = c.loop-digit.invariant in
    sym (number_below-digits w 18446744073709551616 c.loop-digit.value (grind (arith, common_steps)) (omega arith) (grind (arith, common_steps)) (grind (arith, common_steps)) (search rules))
