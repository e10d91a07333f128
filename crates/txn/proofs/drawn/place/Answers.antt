use Rattle.std.proofs.Common.{rules, tests, sym, nat_lt}
use Rattle.std.proofs.lemmas.List.Sorted.{IsPartitionedBy-ltb, IsPartitionPoint-from_clause}
use Rattle.txn.specs.declared.drawn.DrawnCommit.{DrawnCommit}
use Rattle.txn.proofs.InOrder.{halved, last-place, rising}
use Rattle.txn.proofs.drawn.place.Goals as goal

pub returns-then-last-timestamp : goal.returns-then-last-timestamp
returns-then-last-timestamp c = last-place c.args.timestamp c.args.commits.now c.in-Some.last.now c.requires (sym c.in-Some.ensures.value) c.if-last-timestamp.true

pub returns-else-last-timestamp : goal.returns-else-last-timestamp
returns-else-last-timestamp c =
    let commits = c.args.commits.now in
    halved c.args.timestamp commits c.partition_point.result c.in-Some.last.now c.partition_point.ensures.bound
    (IsPartitionPoint-from_clause (λ (d : DrawnCommit). nat_lt d.timestamp c.args.timestamp) _ _ c.partition_point.ensures.partitioned
    (IsPartitionedBy-ltb (λ (d : DrawnCommit). d.timestamp) commits c.args.timestamp (rising commits c.requires)) (λ a r q k. search (rules, tests)))
