use Rattle.std.proofs.Common.{◌+◌, ◌∙◌}
use Rattle.pmem.specs.Device.{persisted}
use Rattle.pmem_model.specs.Past.{history_of}
use Rattle.pmem_model.proofs.Awaited.{tracked-fenced}
use Rattle.pmem_model.proofs.cells.Cells.fence.Goals as goal

pub invariant_of-self-clause-tracked : goal.invariant_of-self-clause-tracked
invariant_of-self-clause-tracked c =
    let cells = c.args.self.now in
    let p = cells.pending in
    tracked-fenced (history_of cells.histories.past) (history_of c.persist.new.histories.past) p.room _ p.counts p.listed.items _ _ c.args.actor.number (cells.histories.clock + 1) cells.tracked
    (λ word. c.persist.ensures.history word ∙ (λ i. persisted c.args.actor.number (c.tick.ensures.clock i) (history_of (c.tick.ensures.past i) word)))
    c.clear.ensures.others
