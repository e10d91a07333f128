use Rattle.std.proofs.Common.{◌≡◌, ◌+◌, ◌*◌, ◌≤◌, ℕ, List, false, get_or, sym, ◌∙◌, subst}
use Rattle.std.proofs.lemmas.List.{get_or_default}
use Rattle.number_set.specs.Bits.{has_bit, IsLowest, IsLowestBit}
use Rattle.number_set.proofs.Summaries.{word-within, in-words, never-empty}
use Rattle.number_set.proofs.level.Summed.lowest_of_words.Goals as goal

pub returns-in-Some-lowest_bit-clause-some : goal.returns-in-Some-lowest_bit-clause-some
returns-in-Some-lowest_bit-clause-some g c =
    let words = c.self.inside.words.items in
    let summary = g.S.Level.words c.self.inside.summary in
    let at = c.in-Some.at in
    let first : IsLowest (g.S.Level.words c.self.inside.summary) c.args.from c.in-Some.at = c.in-Some.ensures.some in
    let word : c.index.result.now ≡ get_or words at 0 = c.index.ensures ∙ sym (get_or_default words at 0 c.index.result.now (word-within words summary c.self.invariant at first.here)) in
    let found : IsLowestBit (get_or words at 0) 0 c.in-Some-lowest_bit.bit = subst (λ (w : ℕ). IsLowestBit w 0 c.in-Some-lowest_bit.bit) word c.in-Some-lowest_bit.ensures.some in
    subst (λ (ws : List ℕ). IsLowest ws (64 * c.args.from) (64 * at + c.in-Some-lowest_bit.bit)) c.self.view_is (in-words words summary c.self.invariant c.args.from at c.in-Some-lowest_bit.bit first found)

-- a word that is in the summary has a bit
pub returns-in-None-lowest_bit-clause-none : goal.returns-in-None-lowest_bit-clause-none
returns-in-None-lowest_bit-clause-none g c =
    let words = c.self.inside.words.items in
    let summary = g.S.Level.words c.self.inside.summary in
    let at = c.in-Some.at in
    let first : IsLowest (g.S.Level.words c.self.inside.summary) c.args.from c.in-Some.at = c.in-Some.ensures.some in
    let word : c.index.result.now ≡ get_or words at 0 = c.index.ensures ∙ sym (get_or_default words at 0 c.index.result.now (word-within words summary c.self.invariant at first.here)) in
    absurd (never-empty words summary c.self.invariant c.args.from at first (subst (λ (w : ℕ). (i : ℕ) → 0 ≤ i → has_bit w i ≡ false) word c.in-None-lowest_bit.ensures.none))
