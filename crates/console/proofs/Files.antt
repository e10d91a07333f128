-- What a file holds.
use Rattle.std.proofs.Common.{◌≡◌, ℕ, List, length, sym, ◌∙◌, arith}
use Rattle.std.proofs.lemmas.List.{ext_get_or}
use Rattle.command_line.specs.ImageFile.{HoldsWords}

-- a file holds the words of one image
pub one_image : (file a b : List ℕ) → HoldsWords file a → HoldsWords file b → a ≡ b
one_image file a b ha hb =
    let size : length a ≡ length b = omega (arith, ha.size, hb.size) in
    ext_get_or 0 a b size (λ word lt. ha.each word lt ∙ sym (hb.each word (omega (arith, lt, size))))
