use Rattle.board.proofs.Indexing.{none_to_settle}
use Rattle.board.proofs.rows.settle.Goals as goal

pub returns-clause-all : goal.returns-clause-all
returns-clause-all c h =
    let now = c.settle_one.ensures.versions (c.loop.invariant.1 h) in
    let first = rw c.if-branch.false at c.in_ok-settle_one.ensures.one in
    none_to_settle c.settle_one.new.last.stamp c.args.floor c.settle_one.new.batches.items now.follow first
