use Rattle.std.proofs.lemmas.List.Filters.{FiltersInPlace}
use Rattle.txn.specs.DrawnCommits.{is_uncovered}
use Rattle.txn.proofs.drawn.gather_uncovered.Given as goal

abbrev pub invariant-loop-at : goal.invariant-loop-at
invariant-loop-at l = FiltersInPlace (is_uncovered l.snapshot) l.fn.commits l.commits l.kept l.at
