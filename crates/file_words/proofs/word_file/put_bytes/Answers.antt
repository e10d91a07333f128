use Rattle.std.proofs.Common.{ℕ, List, ◌++◌, drop, subst, sym}
use Rattle.byteorder.specs.Endian.{IsRead, little_number}
use Rattle.file_words.proofs.Bytes.{bytes-read}
use Rattle.file_words.proofs.word_file.put_bytes.Goals as goal

pub returns : goal.returns
returns c =
    let rest : List ℕ = drop _ c.args.bytes.now in
    subst (λ (l : List ℕ). IsRead little_number 8 (l ++ rest) c.args.words.now) (sym c.write_u64_into.ensures) (bytes-read c.args.words.now rest (λ k lt. (c.type_inv.words k).fits))
