use Rattle.std.proofs.Common.{arith}
use Rattle.std.proofs.lemmas.Grind.{common_steps}
use Rattle.command_line.proofs.ImageFiles.{holds_words}
use Rattle.program.proofs.image.words_in.Goals as goal

pub returns : goal.returns
returns c =
    let size = c.in_ok-words.ensures.len in
    let all = c.requires in
    holds_words c.args.bytes.now c.read_u64_into.new.dst c.in_ok-words.words.items c.in_ok-words.words.len (grind (arith, common_steps)) (omega (arith, size, all)) c.read_u64_into.ensures
