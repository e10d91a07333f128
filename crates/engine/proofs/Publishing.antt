-- What a try to publish comes to.
use Rattle.std.proofs.Common.{◌≡◌, ◌∙◌, inl, inr, sym, ap, subst}
use Rattle.std.specs.Prelude.{Option, Some, None}
use Rattle.std.proofs.lemmas.List.Elements.{Contains-push}
use Rattle.base.specs.Batches.{Batch}
use Rattle.base.specs.Published.{Published}
use Rattle.board.specs.declared.change.Change.TheVariants.{Add}
use Rattle.board.specs.Changes.{changed}
use Rattle.board.specs.Shown.{Shown, whole}
use Rattle.board.proofs.Ends.{last_from-push}
use Rattle.engine.specs.declared.posting.Posting.TheVariants.{Done, Again}
use Rattle.engine.specs.Posting.{EndsIn, Posts, pruned, with_batch}

-- ---- what is reported, and what is left

ends-with : (list : Published) (batch : Batch) → EndsIn (changed list (Add batch)) batch
ends-with list batch = record { has = Contains-push list.batches batch; stamp = last_from-push list.stamp list.batches batch }

ends-pruned : (list : Published) (batch : Batch) → EndsIn list batch → EndsIn (pruned list) batch
ends-pruned list batch e = record { has = e.has; stamp = e.stamp }

pub told-batch : (old new : Shown) (batch : Batch) (list : Published) → Posts old new (Some batch) Done → list ≡ new.list → EndsIn list batch
told-batch old new batch list is same =
    subst (λ (l : Published). EndsIn l batch) (sym (same ∙ ap (λ (s : Shown). s.list) is.1)) (ends-pruned (with_batch old (Some batch)) batch (ends-with (whole old) batch))

announced : (old new : Shown) (batch : Batch) (due : Published) → Posts old new (Some batch) (Again None) → due ≡ whole new → EndsIn due batch
announced old new batch due (may, inl added) same = subst (λ (l : Published). EndsIn l batch) (sym (same ∙ added)) (ends-with (whole old) batch)
announced old new batch due (may, inr both) same = subst (λ (l : Published). EndsIn l batch) (sym (same ∙ both)) (ends-pruned (with_batch old (Some batch)) batch (ends-with (whole old) batch))

pub announced-left : (old new : Shown) (batch : Batch) (rest : Option Batch) (due : Published) → Posts old new (Some batch) (Again rest) → rest ≡ None → due ≡ whole new → EndsIn due batch
announced-left old new batch rest due is none same = announced old new batch due (subst (λ (r : Option Batch). Posts old new (Some batch) (Again r)) none is) same
