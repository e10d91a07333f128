use Rattle.std.proofs.Common.{rules, ◌≡◌, ◌/◌, ℕ, List, Bool, true, ◌||◌, length, get_or, refl, sym, ◌∙◌, ap}
use Rattle.std.proofs.lemmas.Bool.{eq-eqb}
use Rattle.std.proofs.lemmas.List.{with_items_is, get_or_default}
use Rattle.number_set.specs.Bits.{is_in}
use Rattle.number_set.proofs.Summaries.{some-bit, summed-with, summed-still, summed-same}
use Rattle.number_set.proofs.level.SummedLevel.insert.Goals as goal

pub invariant_of-self : goal.invariant_of-self
invariant_of-self g c =
    summed-same c.insert.new.words _ _ _ (with_items_is c.self.inside.words c.insert.new.words (search rules)) refl
    (summed-with c.self.inside.words.items (g.S.Level.words c.self.inside.summary) c.insert.new.words (g.S.Level.words c.insert-then-was_empty.new.self) c.args.k c.self.invariant
    (c.insert.ensures.size ∙ ap (λ (ws : List ℕ). length ws) c.as_mut_slice.ensures.value) c.insert-then-was_empty.ensures.size
    (λ at apart. c.insert.ensures.others at apart ∙ ap (λ (ws : List ℕ). get_or ws at 0) c.as_mut_slice.ensures.value)
    (c.insert.ensures.is_in c.args.k ∙ ap (λ (b : Bool). b || is_in c.as_mut_slice.result.now c.args.k) (eq-eqb c.args.k c.args.k refl)) c.insert-then-was_empty.ensures.is_in)

pub invariant_of-self-else-was_empty : goal.invariant_of-self-else-was_empty
invariant_of-self-else-was_empty g c =
    let words = c.self.inside.words.items in
    let at = c.args.k / 64 in
    let before : c.index.result.now ≡ get_or words at 0 = c.index.ensures ∙ sym (get_or_default words at 0 c.index.result.now (search rules)) in
    let here : is_in c.insert.new.words c.args.k ≡ true = c.insert.ensures.is_in c.args.k ∙ ap (λ (b : Bool). b || is_in c.as_mut_slice.result.now c.args.k) (eq-eqb c.args.k c.args.k refl) in
    summed-same c.insert.new.words (g.S.Level.words c.self.inside.summary) _ _ (with_items_is c.self.inside.words c.insert.new.words (search rules)) refl
    (summed-still words (g.S.Level.words c.self.inside.summary) c.insert.new.words c.args.k c.self.invariant (c.insert.ensures.size ∙ ap (λ (ws : List ℕ). length ws) c.as_mut_slice.ensures.value)
    (λ k apart. c.insert.ensures.others k apart ∙ ap (λ (ws : List ℕ). get_or ws k 0) c.as_mut_slice.ensures.value) (λ none. c.if-was_empty.false (before ∙ none)) (some-bit c.insert.new.words c.args.k here))
