use Rattle.std.proofs.Common.{◌∙◌, ℕ, ◌+◌, ◌-◌, ◌<◌, List, length, take, drop, sym, arith}
use Rattle.std.proofs.lemmas.List.{length-take, length-drop}
use Rattle.journal.proofs.Files.{along, journal_word}
use Rattle.journal.proofs.file_image.is_zeroed.Goals as goal

pub returns : goal.returns
returns c is word above below =
    let file : List ℕ = c.args.file.now in
    let words : ℕ = c.args.words in
    let room : ℕ = words + c.args.room - words in
    let at : ℕ = word - words in
    let lt : at < room = omega (arith, above, below) in
    let within : at < length (take room (drop words file)) = omega (arith, lt, length-take room (drop words file), length-drop words file, c.if-words-file.false, c.if-room-file.false) in
    along file word (words + at) (omega (arith, above)) ∙ sym (journal_word words room file at lt) ∙ c.are_zero.ensures.0 is at within
