use Rattle.std.proofs.Common.{◌≡◌, ◌++◌, ℕ, List, length, take, drop, refl, sym, subst, arith}
use Rattle.std.proofs.Math.Facts.{Fits-lt-pow}
use Rattle.std.proofs.lemmas.Grind.{common_steps}
use Rattle.command_line.specs.ImageFile.{IsFileOf, bytes_of_words}
use Rattle.command_line.proofs.ImageFiles.{bytes-hold}
use Rattle.command_line.proofs.image_file.file_of_words.Goals as goal

pub returns : goal.returns
returns c =
    let is : take c.in_ok-file.file.len (c.write_u64_into.new.dst ++ drop (length c.write_u64_into.new.dst) c.in_ok-file.file.items) ≡ bytes_of_words c.args.words.now = grind (arith, common_steps) in
    subst (λ (file : List ℕ). IsFileOf c.args.words.now file) (sym is)
    (record { bytes = refl; holds = bytes-hold c.args.words.now (λ k h. Fits-lt-pow (c.type_inv.words k)) })
