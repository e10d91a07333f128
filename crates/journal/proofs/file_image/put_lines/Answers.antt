use Rattle.std.proofs.Common.{◌≡◌, ◌∙◌, ◌-◌, ◌*◌, ℕ, List, length, take, drop, sym, ap}
use Rattle.std.proofs.lemmas.List.{length-drop}
use Rattle.std.proofs.Math.Seq.{take-length}
use Rattle.journal.specs.LinePayloads.{line_of}
use Rattle.journal.proofs.Placed.{payloads-more}
use Rattle.journal.proofs.file_image.put_lines.Goals as goal

pub loop-at-preserved : goal.loop-at-preserved
loop-at-preserved c =
    let payloads = c.args.payloads.now in
    let at = c.loop-at.at in
    let rest : List ℕ = drop (9 * at) payloads in
    let all : take (length payloads - 9 * at) rest ≡ rest = ap (λ (n : ℕ). take n rest) (sym (length-drop (9 * at) payloads)) ∙ take-length rest in
    payloads-more c.args.image.now.items c.loop-at.image.items c.put_line.new.image.items payloads at c.line_of-line.result c.loop-at.invariant (c.line_of-line.ensures ∙ ap line_of all) c.put_line.ensures.size c.put_line.ensures.each
