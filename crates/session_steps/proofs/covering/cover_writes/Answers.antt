use Rattle.std.proofs.Common.{◌≡◌, ◌∙◌, sym, ap, subst, Some, Bool, List, slice_get}
use Rattle.std.proofs.lemmas.Option.{slice_get-get_or}
use Rattle.txn.specs.declared.write.Write.{Write}
use Rattle.session_steps.specs.Covering.{MarksReplaced}
use Rattle.session_steps.proofs.covers.Index.{covers-next}
use Rattle.session_steps.proofs.collector.Replaced.{marks-one, marks-then}
use Rattle.session_steps.proofs.covering.cover_writes.Goals as goal

pub loop-write-preserved : goal.loop-write-preserved
loop-write-preserved c =
    let items = c.as_slice-write-items.result.now in
    let at : slice_get items c.loop-write.write-index ≡ Some c.write-item.result = slice_get-get_or items c.loop-write.write-index c.write-item.result c.loop-write-test.true ∙ ap (λ (w : Write). Some w) (sym c.write-item.is) in
    record {
      covers =
          covers-next items c.loop-write.write-index c.write-item.result c.args.index.now c.loop-write.index c.cover-newest.new.self c.loop-write-test.true at c.loop-write.invariant.covers c.cover-newest.ensures.entries c.cover-newest.ensures.room;
      marks = marks-then c.args.replaced.now c.loop-write.replaced c.mark.new.self c.args.index.now c.loop-write.index c.cover-newest.new.self c.loop-write.invariant.marks
          (subst (λ (slots : List Bool). MarksReplaced c.loop-write.replaced slots c.loop-write.index c.cover-newest.new.self) (sym c.mark.ensures)
          (marks-one c.loop-write.replaced c.loop-write.index c.cover-newest.new.self _ _ c.cover-newest.result c.cover-newest.ensures.newest c.cover-newest.ensures.entries));
    }
