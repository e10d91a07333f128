use Rattle.std.proofs.Common.{◌≡◌, ◌∙◌, ◌∷◌, ◌++◌, ℕ, List, [], length, take, map, set, sym, ap, arith}
use Rattle.std.proofs.Math.Seq.{take-length}
use Rattle.std.proofs.lemmas.List.{length-set, take_more_set, map-append}
use Rattle.journal.specs.Entries.{marked, marks}
use Rattle.journal.specs.LinePayloads.{low, packed}
use Rattle.journal.proofs.line.marked_line.Goals as goal

pub returns : goal.returns
returns c =
    let pass = c.args.pass in
    let eight = c.args.line.now.words in
    let nine = c.loop-place.words in
    let last = c.marked-2.result in
    let rest = packed c.args.line.now.number eight in
    let all : c.loop-place.place ≡ 8 = omega (arith, c.loop-place-test.false, c.loop-place.auto.place-end) in
    let size = c.loop-place.invariant.size in
    let count : length eight ≡ 8 = omega arith in
    let taken : take c.loop-place.place eight ≡ eight = ap (λ (n : ℕ). take n eight) (all ∙ sym count) ∙ take-length eight in
    let first : take 8 nine ≡ marks pass (map low eight) =
    ap (λ (n : ℕ). take n nine) (sym all) ∙ c.loop-place.invariant.is ∙ ap (λ (l : List ℕ). marks pass (map low l)) taken in
    let whole : take 9 (set nine 8 last) ≡ set nine 8 last = ap (λ (n : ℕ). take n (set nine 8 last)) (sym (length-set nine 8 last ∙ size)) ∙ take-length (set nine 8 last) in
    sym whole
    ∙ take_more_set nine 8 last (omega (arith, size))
    ∙ (λ i. first i ++ (c.marked-2.ensures ∙ ap (marked pass) c.packed.ensures.is) i ∷ [])
    ∙ sym (map-append (marked pass) (map low eight) (rest ∷ []))
