use Rattle.std.proofs.Common.{arith}
use Rattle.std.proofs.lemmas.Grind.{common_steps}
use Rattle.command_line.proofs.ImageFiles.{holds_words}
use Rattle.command_line.proofs.image_file.words_of_file.Goals as goal

pub returns-clause-ok : goal.returns-clause-ok
returns-clause-ok c =
    let size = c.in-Ok.ensures.len in
    let all = c.if-file-ne0.false in
    holds_words c.args.file.now c.read_u64_into.new.dst c.in-Ok.words.items c.in-Ok.words.len (grind (arith, common_steps)) (omega (arith, size, all)) c.read_u64_into.ensures
