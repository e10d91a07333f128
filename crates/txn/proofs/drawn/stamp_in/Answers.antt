use Rattle.std.proofs.Common.{sym, arith}
use Rattle.txn.proofs.InOrder.{stamped-at, stamped-nowhere}
use Rattle.txn.proofs.drawn.stamp_in.Goals as goal

pub returns-then-at-commits : goal.returns-then-at-commits
returns-then-at-commits c = grind (arith, stamped-at)

pub returns-else-at-commits : goal.returns-else-at-commits
returns-else-at-commits c = sym (stamped-nowhere c.args.timestamp c.args.commits.now (omega (arith, c.if-at-commits.false, c.place-at.ensures)))
