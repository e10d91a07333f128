use Rattle.std.proofs.Common.{arith}
use Rattle.board.specs.declared.change.Change.TheVariants.{Raise}
use Rattle.board.specs.Changes.{list_of}
use Rattle.board.proofs.Growing.{list_next}
use Rattle.board.proofs.Standing.{stands_raise}
use Rattle.board.proofs.shelf.Shelf.raise.Goals as goal

pub invariant_of-self : goal.invariant_of-self
invariant_of-self g c = grind (arith, list_next c.self.inside.front (Raise c.args.stamp) c.is_published.ensures.1, stands_raise c.self.inside.coverage c.self.inside.floor c.self.inside.rows.entries c.self.inside.batches.items (list_of c.self.inside.front) c.args.stamp c.self.invariant.0, c.again.ensures, c.is_published.ensures.1, c.settle.ensures.rows, c.self.invariant.0, c.settle.ensures.versions, c.self.invariant.1)
