use Rattle.std.proofs.Common.{rules, tests, ◌≡◌, ◌<◌, true, false, length, get_or}
use Rattle.std.proofs.lemmas.List.Filters.{FiltersInPlace-more_no, FiltersInPlace-more_swap}
use Rattle.txn.specs.DrawnCommits.{is_uncovered}
use Rattle.txn.proofs.drawn.gather_uncovered.Goals as goal
use Rattle.txn.proofs.drawn.gather_uncovered.Goals.{then-stays, else-stays}

pub loop-at-preserved : goal.loop-at-preserved
loop-at-preserved c =
    let within : c.loop-at.at < length c.loop-at.commits = search rules in
    let there : c.index-commits-at.result ≡ get_or c.loop-at.commits c.loop-at.at c.index-commits-at.result = search rules in
    elim c.if-stays.branch [
      | then-stays w ↦
          let passes : is_uncovered c.args.snapshot.now c.index-commits-at.result ≡ true = search (rules, tests) in
          rw (w.commits-is, w.kept-is) (FiltersInPlace-more_swap c.loop-at.invariant within passes there w.swap.ensures.by_index)
      | else-stays w ↦
          let fails : is_uncovered c.args.snapshot.now c.index-commits-at.result ≡ false = search (rules, tests) in
          rw (w.commits-is, w.kept-is) (FiltersInPlace-more_no c.loop-at.invariant within fails there)
    ]
