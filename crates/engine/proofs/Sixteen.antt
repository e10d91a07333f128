-- The stamps that a try to publish leaves readable.
use Rattle.std.proofs.Common.{◌≡◌, inl, inr, sym, subst, arith}
use Rattle.std.specs.Prelude.{List, [], fold, Option, Some, None}
use Rattle.base.specs.Batches.{Batch}
use Rattle.base.specs.Published.{Published, last_stamp}
use Rattle.board.specs.declared.change.Change.{Change}
use Rattle.board.specs.declared.change.Change.TheVariants.{Add}
use Rattle.board.specs.Changes.{changed}
use Rattle.board.specs.Lists.{Fits}
use Rattle.board.specs.Shown.{Shown, whole}
use Rattle.board.proofs.Ends.{last_from-push}
use Rattle.engine.specs.declared.posting.Posting.{Posting}
use Rattle.engine.specs.declared.posting.Posting.TheVariants.{Done, Again, Unfit}
use Rattle.engine.specs.Keeping.{KeepsEnough, KeepsSixteen}
use Rattle.engine.specs.Posting.{MayCome, Posts, pruned, with_batch}

-- no change waits yet
pub keeps-begun : (board : Shown) → board.waits ≡ [] → board.list.floor ≡ board.list.stamp → KeepsEnough (whole board)
keeps-begun board none is = subst (λ (changes : List Change). KeepsEnough (fold changed board.list changes)) (sym none) (record { first = omega (arith, is); enough = omega (arith, is) })

-- a batch has the next stamp
keeps-added : (list : Published) (batch : Batch) → Fits list batch → KeepsEnough list → KeepsEnough (changed list (Add batch))
keeps-added list batch fits keeps =
    let next : last_stamp (changed list (Add batch)) ≡ batch.stamp = last_from-push list.stamp list.batches batch in
    record { first = keeps.first; enough = omega (arith, next, fits.from, fits.stamp, keeps.enough) }

keeps-with : (old : Shown) (batch : Option Batch) → MayCome old batch → KeepsEnough (whole old) → KeepsEnough (with_batch old batch)
keeps-with old None may keeps = keeps
keeps-with old (Some batch) may keeps = keeps-added (whole old) batch may keeps

keeps-pruned : (list : Published) → KeepsEnough list → KeepsEnough (pruned list)
keeps-pruned list keeps = record { first = omega (arith, keeps.first); enough = omega (arith, keeps.enough) }

sixteen-pruned : (list : Published) → KeepsEnough list → KeepsSixteen (pruned list)
sixteen-pruned list keeps = omega (arith, keeps.first, keeps.enough)

pub keeps-posted : (old new : Shown) (batch : Option Batch) (posting : Posting) → Posts old new batch posting → KeepsEnough (whole old) → KeepsEnough (whole new)
keeps-posted old new batch Done is keeps = subst (λ (s : Shown). KeepsEnough (whole s)) (sym is.1) (keeps-pruned (with_batch old batch) (keeps-with old batch is.0 keeps))
keeps-posted old new batch (Again (Some left)) is keeps = subst (λ (s : Shown). KeepsEnough (whole s)) (sym is.1) keeps
keeps-posted old new batch (Again None) (may, inl is) keeps = subst KeepsEnough (sym is) (keeps-with old batch may keeps)
keeps-posted old new batch (Again None) (may, inr is) keeps = subst KeepsEnough (sym is) (keeps-pruned (with_batch old batch) (keeps-with old batch may keeps))
keeps-posted old new batch Unfit is keeps = subst (λ (s : Shown). KeepsEnough (whole s)) (sym is.1) keeps

pub sixteen-posted : (old new : Shown) (batch : Option Batch) → Posts old new batch Done → KeepsEnough (whole old) → KeepsSixteen new.list
sixteen-posted old new batch is keeps = subst (λ (s : Shown). KeepsSixteen s.list) (sym is.1) (sixteen-pruned (with_batch old batch) (keeps-with old batch is.0 keeps))
