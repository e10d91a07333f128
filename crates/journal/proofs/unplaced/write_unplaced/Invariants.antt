use Rattle.std.proofs.Common.{◌≤◌, length}
use Rattle.journal.proofs.Placings.{IsPlacing}
use Rattle.journal.proofs.unplaced.write_unplaced.Given as goal

abbrev pub invariant-loop-at : goal.invariant-loop-at
invariant-loop-at g l = (l.at ≤ length l.fn.lines) × IsPlacing (g.S.Storage.may_hold l.fn.storage) (g.S.Storage.shows l.fn.storage) (g.S.Storage.may_hold l.storage) (g.S.Storage.shows l.storage) l.fn.image.value.items l.fn.lines l.fn.marks.items l.marks.items l.at

abbrev pub decreases-loop-at : goal.decreases-loop-at
decreases-loop-at g l = l.at
