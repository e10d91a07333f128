use Rattle.std.proofs.Common.{sym, arith}
use Rattle.std.proofs.lemmas.List.{length-map}
use Rattle.command_line.proofs.Lines.{own_line-two_words}
use Rattle.command_line.specs.Lines.{texts}
use Rattle.command_line.proofs.script_line.own_line.Goals as goal

pub returns-in-len2 : goal.returns-in-len2
returns-in-len2 c =
    let words = c.args.words.now in
    let same = length-map words (λ s. s.now) in
    let least = c.in-len2.len_at_least in
    let most = c.in-len2.len_below in
    sym (own_line-two_words (texts words) (omega (arith, same, least)) (omega (arith, same, most)))
