use Rattle.std.proofs.Common.{◌≡◌, ◌*◌, ◌-◌, ◌^◌, ◌≤◌, ℕ, length, min, sym, ◌∙◌, ap, subst, arith}
use Rattle.std.specs.Prelude.{IsTrue}
use Rattle.std.proofs.lemmas.Bool.{eqb-true}
use Rattle.base.specs.Images.{layout_of}
use Rattle.base.specs.Layout.{Layout, is_in_limits, layout_with, total_words}
use Rattle.program.proofs.image.is_image.Goals as goal

-- eight bytes for each word
all_words : (total count size product : ℕ) → size ≡ 8 * count → product ≡ min (total * 8) (2 ^ 64 - 1) → product ≡ size → total ≡ count
all_words total count size product of_words is same = omega (arith, of_words, is, same)

pub returns-in-Ok : goal.returns-in-Ok
returns-in-Ok c whole words holds =
    let some : 5 ≤ length words = omega (arith, holds.size, c.if-file.false) in
    let version = holds.each 1 (omega (arith, some)) ∙ sym c.word_at-version.ensures in
    let slots = holds.each 2 (omega (arith, some)) ∙ sym c.word_at-slots.ensures in
    let places = holds.each 3 (omega (arith, some)) ∙ sym c.word_at-places.ensures in
    let window = holds.each 4 (omega (arith, some)) ∙ sym c.word_at-window.ensures in
    let read : layout_of words ≡ layout_with c.word_at-version.result c.word_at-slots.result c.word_at-places.result c.word_at-window.result = λ i. layout_with (version i) (slots i) (places i) (window i) in
    let is = read ∙ sym c.in-Ok.ensures.ok in
    record {
      limits = subst (λ (l : Layout). IsTrue (is_in_limits l)) (sym is) c.words.ensures.limits;
      size = ap total_words is ∙ sym c.words.ensures.words
          ∙ all_words c.words.result (length words) (length c.args.file.now) c.saturating_mul.result holds.size c.saturating_mul.ensures (eqb-true c.saturating_mul.result (length c.args.file.now) whole);
    }
