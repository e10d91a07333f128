use Rattle.std.proofs.Common.{◌≡◌, ◌∙◌, ◌≤◌, ◌+◌, ap, arith, ℕ, List, get_or, length, replicate, refl, rules}
use Rattle.std.proofs.lemmas.List.{length-replicate}
use Rattle.file_words.specs.Accounts.{Held, Shown}
use Rattle.file_words.proofs.Syncs.{sized}
use Rattle.file_words.proofs.Writes.{all-zero, before-part, begins, filling-more}
use Rattle.file_words.proofs.word_file.WordFile.fill.Goals as goal

pub returns-in_err-resize-clause-found : goal.returns-in_err-resize-clause-found
returns-in_err-resize-clause-found c word x lt held = sized Held _ _ _ _ c.resize.ensures word x (omega (arith, lt, c.requires)) held

pub returns-in_err-resize-clause-others : goal.returns-in_err-resize-clause-others
returns-in_err-resize-clause-others c word x lt shown = sized Shown _ _ _ _ c.resize.ensures word x (omega (arith, lt, c.requires)) shown

pub loop-at-init : goal.loop-at-init
loop-at-init c =
    let le : c.args.from ≤ c.args.to = omega (arith, c.requires) in
    let nothing : ℕ = 0 in
    let first = begins _ _ _ _ c.args.from c.args.to le
    (λ word x lt held. sized Held _ _ _ _ c.resize.ensures word x (omega (arith, lt, c.requires)) held)
    (λ word x lt shown. sized Shown _ _ _ _ c.resize.ensures word x (omega (arith, lt, c.requires)) shown) in
    let is : c.in_ok-zeros.zeros.items ≡ replicate 8192 nothing = search rules in
    (first, all-zero c.in_ok-zeros.zeros.items 8192 is, ap length is ∙ length-replicate 8192 nothing, refl)

pub returns-in_err-write_part-clause-found : goal.returns-in_err-write_part-clause-found
returns-in_err-write_part-clause-found c = before-part _ _ _ c.args.from c.loop-at.at _ c.loop-at.invariant.0.behind c.loop-at.invariant.0.found c.write_part.ensures.found

pub returns-in_err-write_part-clause-others : goal.returns-in_err-write_part-clause-others
returns-in_err-write_part-clause-others c = before-part _ _ _ c.args.from c.loop-at.at _ c.loop-at.invariant.0.behind c.loop-at.invariant.0.others c.write_part.ensures.others

pub loop-at-preserved : goal.loop-at-preserved
loop-at-preserved c =
    let zeros = c.as_slice.result.now in
    let some : c.min-count.result ≤ length zeros = omega (arith, c.min-count.ensures, c.loop-at.invariant.2, ap length c.as_slice.ensures.value) in
    let are : (k : ℕ) → get_or zeros k 0 ≡ 0 = λ k. ap (λ (l : List ℕ). get_or l k 0) c.as_slice.ensures.value ∙ c.loop-at.invariant.1 k in
    let within : c.loop-at.at + c.min-count.result ≤ c.args.to = search rules in (
      filling-more _ _ _ _ _ _ c.args.from c.args.to c.loop-at.at c.min-count.result zeros c.loop-at.invariant.0 some within are
          c.write_part.ensures.found c.write_part.ensures.others c.in_ok-write_part.ensures.written,
      c.loop-at.invariant.1,
      c.loop-at.invariant.2,
      c.in_ok-write_part.ensures.end ∙ c.loop-at.invariant.3,
    )
