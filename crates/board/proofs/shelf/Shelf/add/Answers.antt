use Rattle.std.proofs.Common.{rules, ◌≡◌, ◌++◌, ◌∷◌, [], ap, ◌∙◌, sym, subst, arith}
use Rattle.base.specs.Published.{Published}
use Rattle.board.specs.declared.change.Change.TheVariants.{Add}
use Rattle.board.specs.Changes.{changed, list_of}
use Rattle.board.specs.Lists.{IsPublished}
use Rattle.board.proofs.Growing.{list_next}
use Rattle.board.proofs.Standing.{stands_add, comes_next}
use Rattle.board.proofs.Indexing.{none_over, indexed_push}
use Rattle.board.proofs.shelf.Shelf.add.Goals as goal

pub enter-requires : goal.enter-requires
enter-requires g c k =
    let s = c.self.inside in
    let batch = c.args.batch in
    let list : list_of c.args.front.now ≡ changed (list_of s.front) (Add batch) =
    ap list_of (c.requires ∙ ap (λ l. l ++ Add batch ∷ []) (sym c.self.view_is)) ∙ list_next s.front (Add batch) c.is_published.ensures.1 in
    let next = comes_next s.coverage s.floor s.rows.entries s.batches.items (list_of s.front) batch c.self.invariant.0 (subst IsPublished list c.is_published-2.ensures.0) in
    c.self.invariant.1.same k c.stamp.result ∙ none_over s.coverage.stamp s.batches.items k c.stamp.result c.self.invariant.1.follow (omega (arith, c.stamp.ensures, next.1))

pub invariant_of-self-2 : goal.invariant_of-self-2
invariant_of-self-2 g c =
    let s = c.self.inside in
    let batch = c.args.batch in
    let items : c.push_reserved.new.self.items ≡ s.batches.items ++ batch ∷ [] = search rules in
    let log : c.again.result ≡ s.front ++ Add batch ∷ [] = c.again.ensures ∙ (c.requires ∙ ap (λ l. l ++ Add batch ∷ []) (sym c.self.view_is)) in
    let list : list_of c.again.result ≡ changed (list_of s.front) (Add batch) = ap list_of log ∙ list_next s.front (Add batch) c.is_published.ensures.1 in
    let published = subst (λ (l : Published). IsPublished l) list (subst (λ log. IsPublished (list_of log)) (sym c.again.ensures) c.is_published-2.ensures.0) in
    let next = comes_next s.coverage s.floor s.rows.entries s.batches.items (list_of s.front) batch c.self.invariant.0 published in
    let entered = rw (c.stamp.ensures, c.commits.ensures) at c.in_ok-enter.ensures.done in
    rw (items, list) (
      stands_add s.coverage s.floor s.rows.entries s.batches.items (list_of s.front) batch c.self.invariant.0,
      indexed_push s.coverage.stamp s.versions.entries c.enter.new.versions.entries s.batches.items batch c.self.invariant.1 next.0 next.1 entered,
    )
