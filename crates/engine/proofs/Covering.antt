-- Which batches a run covered.
use Rattle.std.proofs.Common.{◌≡◌, ◌∙◌, refl, sym, ap, subst, arith}
use Rattle.std.proofs.Math.Logic.{∥∥₁_map}
use Rattle.std.specs.Option.{ForSome}
use Rattle.std.specs.Prelude.{Option, Some, None}
use Rattle.base.specs.declared.step.Step.{Step}
use Rattle.base.specs.declared.step.Note.{Note}
use Rattle.base.specs.declared.step.Reply.{Reply}
use Rattle.base.specs.declared.step.Reply.TheVariants.{Covered}
use Rattle.base.specs.Published.{Published}
use Rattle.base.specs.Batches.{Batch}
use Rattle.base.specs.Images.{Image}
use Rattle.base.specs.Replies.{note_of}
use Rattle.machine.specs.Machine.{State, Stepped}
use Rattle.pmem.specs.Device.{Device}
use Rattle.pmem.specs.declared.device.Pmem.{Ghosts}
use Rattle.room.specs.Room.{Leads, Shows}
use Rattle.room.proofs.Runs.{of-weaken}
use Rattle.audited.specs.declared.audited.Audited.{Audited}
use Rattle.audited.specs.declared.receipt.Receipt.{Receipt}
use Rattle.engine.specs.Origins.{IsFrom, HasCovered}
use Rattle.engine.specs.Posting.{EndsIn, IsPosted, IsTurn}
use Rattle.engine.proofs.Rising.{some_is}

-- if the step that the room made covered a batch, a run from its image comes to the state in which it was made
pub covered-by : {D : Type 0} {G : Ghosts D} (state : D → Device) (image : Image) (lent : Option (Audited D G)) (old new : Audited D G) (step : Step) (reply : Reply)
    → ForSome lent (IsFrom state image) → lent ≡ Some old → Leads state old.room new.room step reply → (batch : Batch) → reply ≡ Covered batch → HasCovered image batch
covered-by state image lent old new step reply from is leads batch covers =
    ∥∥₁_map (from old is) (λ a. (
      old.entries.items,
      step,
      of-weaken image old.entries.items (Shows state old.room) (λ q. (q' : State) × Stepped q step (Covered batch) q')
          (λ q shows. let s = leads q shows in (s.0, subst (λ (told : Reply). Stepped q step told s.0) covers s.1.stepped)) a.run,
    ))

note-kept : (image : Image) (made : Option (Reply × Option Receipt)) (reply : Reply) (kept : Option Receipt) (receipt : Receipt) → ForSome made (IsTurn image) → made ≡ Some (reply, kept) → kept ≡ Some receipt → receipt.note ≡ note_of reply
note-kept image made reply kept receipt turn is has = some_is (λ (r : Receipt). r.note ≡ note_of reply) kept receipt (turn (reply, kept) is).note has

-- a batch that was covered is published
pub turn-posted : (image : Image) (made : Option (Reply × Option Receipt)) (reply : Reply) (kept : Option Receipt) (receipt : Receipt) (batch : Batch) (list : Published)
    → ForSome made (IsTurn image) → made ≡ Some (reply, kept) → kept ≡ Some receipt → reply ≡ Covered batch → EndsIn list batch → IsPosted image receipt.note (Some list)
turn-posted image made reply kept receipt batch list turn is has covers ends =
    subst (λ (n : Note). IsPosted image n (Some list)) (sym (note-kept image made reply kept receipt turn is has ∙ ap note_of covers))
    (batch, refl, (turn (reply, kept) is).covered batch covers, ends)

unposted : (image : Image) (reply : Reply) → ((batch : Batch) → reply ≡ Covered batch → ⊥) → IsPosted image (note_of reply) None
unposted image a other = grind (arith)

-- none was
pub turn-unposted : (image : Image) (made : Option (Reply × Option Receipt)) (reply : Reply) (kept : Option Receipt) (receipt : Receipt)
    → ForSome made (IsTurn image) → made ≡ Some (reply, kept) → kept ≡ Some receipt → ((batch : Batch) → reply ≡ Covered batch → ⊥) → IsPosted image receipt.note None
turn-unposted image made reply kept receipt turn is has other =
    subst (λ (n : Note). IsPosted image n None) (sym (note-kept image made reply kept receipt turn is has)) (unposted image reply other)
