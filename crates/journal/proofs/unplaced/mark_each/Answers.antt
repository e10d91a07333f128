use Rattle.journal.proofs.Placings.{lines-marked}
use Rattle.journal.proofs.unplaced.mark_each.Goals as goal

pub loop-line-preserved : goal.loop-line-preserved
loop-line-preserved c =
    lines-marked c.args.marks.now.items c.loop-line.marks.items c.mark.new.marks.items c.args.lines.now c.loop-line.line-index _ c.loop-line-test.true c.loop-line.invariant c.mark.ensures.size c.mark.ensures.marked c.mark.ensures.others
