use Rattle.std.proofs.Common.{arith}
use Rattle.std.proofs.lemmas.List.{length-map}
use Rattle.command_line.proofs.Lines.{command_of-three_words}
use Rattle.command_line.specs.Lines.{texts}
use Rattle.command_line.proofs.line.command.Goals as goal

pub returns-in-len3-clause-refused : goal.returns-in-len3-clause-refused
returns-in-len3-clause-refused c _ =
    let words = c.args.words.now in
    let same = length-map words (λ s. s.now) in
    let least = c.in-len3.len_at_least in
    let most = c.in-len3.len_below in
    command_of-three_words (texts words) (omega (arith, same, least)) (omega (arith, same, most))
