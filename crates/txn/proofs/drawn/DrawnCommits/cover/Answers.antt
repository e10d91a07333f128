use Rattle.std.proofs.Common.{◌≡◌, arith}
use Rattle.std.specs.List.{filter}
use Rattle.std.proofs.lemmas.List.{with_items_is}
use Rattle.base.proofs.Lists.{all-filter}
use Rattle.txn.specs.DrawnCommits.{is_uncovered}
use Rattle.txn.proofs.InOrder.{order-filtered}
use Rattle.txn.proofs.drawn.DrawnCommits.cover.Goals as goal

left : (c : goal.After-hand_back) → c.hand_back.new.commits.items ≡ filter (is_uncovered c.args.snapshot.now) c.self.inside.commits.items
left c = grind (arith, with_items_is)

pub invariant_of-self : goal.invariant_of-self
invariant_of-self c = grind (arith, left, all-filter, order-filtered)
