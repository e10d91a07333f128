use Rattle.std.proofs.Common.{rules, ◌≡◌, ◌≢◌, ◌<◌, ◌≤◌, ◌/◌, ℕ, List, length, get_or, refl, sym, ◌∙◌, ap, subst, arith}
use Rattle.std.proofs.lemmas.List.{with_items_is, get_or_default}
use Rattle.number_set.proofs.Summaries.{summed-without, summed-still, summed-same}
use Rattle.number_set.proofs.level.SummedLevel.remove.Goals as goal

-- what is read of the words is what was left in them
read : (now written old : List ℕ) (at x : ℕ) → written ≡ now → length now ≡ length old → at < length old → x ≡ get_or written at x → get_or now at 0 ≡ x
read now written old at x same size lt is = get_or_default now at 0 x (omega (arith, size, lt)) ∙ sym (is ∙ ap (λ (ws : List ℕ). get_or ws at x) same)

pub invariant_of-self : goal.invariant_of-self
invariant_of-self g c =
    let at = c.args.k / 64 in
    let inside : c.args.k / 64 < length c.self.inside.words.items = subst (λ (ws : List ℕ). c.args.k / 64 < length ws) (sym c.self.view_is) c.requires in
    let size : length c.remove.new.words ≡ length c.self.inside.words.items = c.remove.ensures.size ∙ ap (λ (ws : List ℕ). length ws) c.as_mut_slice.ensures.value in
    let same = with_items_is c.self.inside.words c.remove.new.words (search rules) in
    summed-same c.remove.new.words _ _ _ same refl
    (summed-without c.self.inside.words.items (g.S.Level.words c.self.inside.summary) c.remove.new.words (g.S.Level.words c.remove-then-index-eq0.new.self) c.args.k c.self.invariant size c.remove-then-index-eq0.ensures.size
    (λ k apart. c.remove.ensures.others k apart ∙ ap (λ (ws : List ℕ). get_or ws k 0) c.as_mut_slice.ensures.value)
    (read c.remove.new.words _ c.self.inside.words.items at c.index.result.now same size inside c.index.ensures ∙ c.if-index-eq0.true) c.remove-then-index-eq0.ensures.is_in)

pub invariant_of-self-else-index-eq0 : goal.invariant_of-self-else-index-eq0
invariant_of-self-else-index-eq0 g c =
    let at = c.args.k / 64 in
    let inside : c.args.k / 64 < length c.self.inside.words.items = subst (λ (ws : List ℕ). c.args.k / 64 < length ws) (sym c.self.view_is) c.requires in
    let size : length c.remove.new.words ≡ length c.self.inside.words.items = c.remove.ensures.size ∙ ap (λ (ws : List ℕ). length ws) c.as_mut_slice.ensures.value in
    let same = with_items_is c.self.inside.words c.remove.new.words (search rules) in
    let less : get_or c.remove.new.words at 0 ≤ get_or c.self.inside.words.items at 0 = subst (λ (ws : List ℕ). get_or c.remove.new.words at 0 ≤ get_or ws at 0) c.as_mut_slice.ensures.value (c.remove.ensures.less at) in
    let some : get_or c.remove.new.words at 0 ≢ 0 = λ none. c.if-index-eq0.false (sym (read c.remove.new.words _ c.self.inside.words.items at c.index.result.now same size inside c.index.ensures) ∙ none) in
    summed-same c.remove.new.words (g.S.Level.words c.self.inside.summary) _ _ same refl
    (summed-still c.self.inside.words.items (g.S.Level.words c.self.inside.summary) c.remove.new.words c.args.k c.self.invariant size
    (λ k apart. c.remove.ensures.others k apart ∙ ap (λ (ws : List ℕ). get_or ws k 0) c.as_mut_slice.ensures.value) (λ none. some (omega (arith, less, none))) some)

pub returns-then-index-eq0-clause-is_in : goal.returns-then-index-eq0-clause-is_in
returns-then-index-eq0-clause-is_in g c = grind (arith, with_items_is)
