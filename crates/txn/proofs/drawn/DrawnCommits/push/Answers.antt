use Rattle.std.proofs.Common.{arith}
use Rattle.txn.proofs.InOrder.{order-pushed}
use Rattle.txn.proofs.Numbered.{numbered-pushed}
use Rattle.txn.proofs.drawn.DrawnCommits.push.Goals as goal

pub invariant_of-self : goal.invariant_of-self
invariant_of-self c = grind (arith, numbered-pushed c.args.commit c.self.inside.commits.items c.self.invariant.0 c.requires.numbered, order-pushed, c.push_reserved.ensures.items, c.self.invariant.0, c.self.invariant.1)
