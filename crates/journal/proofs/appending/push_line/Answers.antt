use Rattle.std.proofs.Common.{◌+◌, ◌*◌, List, [], ◌∷◌, ◌++◌, refl, sym, subst, arith}
use Rattle.journal.specs.declared.line.Line.{Line}
use Rattle.journal.specs.LinePayloads.{IsLine}
use Rattle.journal.specs.Changes.{AreFound}
use Rattle.journal.proofs.Changes.{found-stood, found-more}
use Rattle.journal.proofs.appending.push_line.Goals as goal

pub returns-then-number-words : goal.returns-then-number-words
returns-then-number-words c numbers before =
    found-stood c.args.lines.now.items c.args.words.now numbers c.args.number before
    (λ word lt at. absurd (omega (arith, lt, at, c.requires.whole, c.if-number-words.true)))

pub returns : goal.returns
returns c numbers before =
    let words = c.args.words.now in
    let number = c.args.number in
    let line : Line = record { number = number; words = c.eight_at.result } in
    let is : IsLine line = record {
      size = c.eight_at.ensures.size;
      fits = λ at lt. omega (arith, c.eight_at.ensures.each at lt, (c.type_inv.words (8 * number + at)).fits);
    } in
    let P : List Line → Type 0 = λ l. AreFound l words (numbers ++ number ∷ []) in
    subst P (sym c.in_ok-push.ensures.items)
    (found-more c.args.lines.now.items line words numbers number before is refl (omega (arith, c.if-number-words.false, c.requires.whole)) c.eight_at.ensures.each)
