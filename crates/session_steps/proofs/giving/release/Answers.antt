use Rattle.std.proofs.Common.{◌≡◌, ◌∙◌, sym, ap, subst, Some, take, ◌+◌, slice_get, length}
use Rattle.std.proofs.lemmas.Option.{slice_get-get_or}
use Rattle.txn.specs.declared.write.Write.{Write}
use Rattle.session_steps.specs.Giving.{ReleasesSlots}
use Rattle.session_steps.specs.Giving.{fits_writes}
use Rattle.session_steps.proofs.slots.Freed.{gives-next_none, gives-next_slot, fits-at, fits-own}
use Rattle.session_steps.proofs.giving.release.Goals.{in-Some, in_default}
use Rattle.session_steps.proofs.giving.release.Goals as goal

pub loop-write-preserved : goal.loop-write-preserved
loop-write-preserved c =
    let items = c.as_slice-write-items.result.now in
    let at : slice_get items c.loop-write.write-index ≡ Some c.write-item.result = slice_get-get_or items c.loop-write.write-index c.write-item.result c.loop-write-test.true ∙ ap (λ (w : Write). Some w) (sym c.write-item.is) in
    elim c.match-write.branch [
      | in-Some w ↦
          let fits = fits-at (length c.args.slots.now) items c.loop-write.write-index c.write-item.result (ap (fits_writes (length c.args.slots.now)) c.as_slice-write-items.ensures.slice ∙ c.requires) at in
          subst (ReleasesSlots (take (c.loop-write.write-index + 1) items) c.args.slots.now) (sym (w.slots-is ∙ w.give.ensures))
          (gives-next_slot items c.loop-write.write-index c.write-item.result c.args.slots.now c.loop-write.slots c.loop-write-test.true at c.loop-write.invariant w.in-Some.slot w.in-Some.is
          (fits-own (length c.args.slots.now) c.write-item.result w.in-Some.slot fits w.in-Some.is))
      | in_default w ↦
          subst (ReleasesSlots (take (c.loop-write.write-index + 1) items) c.args.slots.now) (sym w.slots-is)
          (gives-next_none items c.loop-write.write-index c.write-item.result c.args.slots.now c.loop-write.slots c.loop-write-test.true at c.loop-write.invariant w.in_default.is)
    ]
