use Rattle.std.proofs.Common.{length}
use Rattle.base.specs.Published.{Published}
use Rattle.board.specs.Stored.{Stands}
use Rattle.board.specs.Versions.{Indexed}
use Rattle.board.proofs.rows.settle.Given as goal

abbrev pub invariant-loop : goal.invariant-loop
invariant-loop l =
    ((list : Published) → Stands l.initial.last l.floor l.initial.rows.entries l.initial.batches.items list → Stands l.last l.floor l.rows.entries l.batches.items list)
    × (Indexed l.initial.last.stamp l.initial.versions.entries l.initial.batches.items → Indexed l.last.stamp l.versions.entries l.batches.items)

abbrev pub decreases-loop : goal.decreases-loop
decreases-loop l = length l.batches.items
