use Rattle.std.proofs.Common.{◌≡◌, ◌∙◌, ◌-◌, ◌+◌, ◌*◌, suc, ℕ, ◌∷◌, ◌++◌, [], List, length, take, drop, sym, ap, arith}
use Rattle.std.proofs.lemmas.List.{length-drop}
use Rattle.std.proofs.Math.Seq.{take-length}
use Rattle.journal.specs.LinePayloads.{line_of, lines_of}
use Rattle.journal.proofs.Placed.{lines-more}
use Rattle.journal.proofs.file_image.listed.Goals as goal

pub loop-at-preserved : goal.loop-at-preserved
loop-at-preserved c =
    let payloads = c.args.payloads.now in
    let at = c.loop-at.at in
    let rest : List ℕ = drop (9 * at) payloads in
    let all : take (length payloads - 9 * at) rest ≡ rest = ap (λ (n : ℕ). take n rest) (sym (length-drop (9 * at) payloads)) ∙ take-length rest in
    let next : suc at ≡ at + 1 = omega arith in
    c.in_ok-push.ensures.items
    ∙ (λ i. c.loop-at.invariant i ++ (c.line_of.ensures ∙ ap line_of all) i ∷ [])
    ∙ sym (lines-more at payloads)
    ∙ ap (λ (n : ℕ). lines_of n payloads) next
