-- Reading on a device.
use Rattle.std.proofs.Common.{◌≡◌, inl, inr, length, sym, subst, arith}
use Rattle.std.specs.Prelude.{Option, Some, None, slice_index}
use Rattle.base.specs.Layout.{total_words}
use Rattle.base.specs.Images.{IsRuledBy}
use Rattle.base.specs.Records.{Record}
use Rattle.machine.specs.Machine.{State, Hand}
use Rattle.pmem.specs.Device.{Device, IsOrderly, MayLeave}
use Rattle.pmem.specs.Words.{value_of, image_of, Survives}
use Rattle.log_area.proofs.Heads.{image_size, image_word, laid_size}
use Rattle.log_area.proofs.AtRest.{laid}
use Rattle.log_area.proofs.Replacing.{holds_ruled, ruled_meanwhile}
use Rattle.state_invariant.specs.Kept.{Origin}
use Rattle.state_invariant.specs.Links.{Links}
use Rattle.state_invariant.specs.Shown.{word_of, SlotsShow}
use Rattle.state_invariant.proofs.steps.LinksStay.{links-stores}
use Rattle.state_invariant.proofs.reads.Tables.{reads}
use Rattle.device_invariant.specs.Log.{HoldsHand, writing_at}
use Rattle.device_invariant.specs.Upholds.{Upholds}
use Rattle.device_invariant.specs.Laws.{DevicesRead}
use Rattle.device_invariant.proofs.Words.{word-within}
use Rattle.device_invariant.proofs.moves.Shown.{shows-same}

-- the last values of all words may survive
pub leaves-image : (device : Device) → IsOrderly device → MayLeave device (image_of device)
leaves-image device orderly = record { size = image_size device; each = λ word lt. subst (Survives device word) (sym (image_word device word lt)) (orderly.some word lt) }

-- it has the state's layout
pub ruled-image : (q : State) (device : Device) (hand : Option Hand) → IsOrderly device → HoldsHand q device hand → (r : Record) × IsRuledBy q.layout r (image_of device)
ruled-image q device None orderly holds = (q.ruling, holds_ruled q.layout q.ruling device holds (image_of device) (leaves-image device orderly))
ruled-image q device (Some hand) orderly (inl f) = (q.ruling, holds_ruled q.layout q.ruling device f.follows.holds (image_of device) (leaves-image device orderly))
ruled-image q device (Some hand) orderly (inr r) = elim (ruled_meanwhile q.ruling (writing_at q hand r.stage) device r.replaces (image_of device) (leaves-image device orderly)) [ inl old ↦ (q.ruling, old) | inr new ↦ (hand.target, new.1) ]

-- its slots show what the state says in the image of all last values
pub shows-image : (o : Origin) (q : State) (device : Device) → IsOrderly device → Upholds o q device → SlotsShow o q (slice_index (image_of device))
shows-image o q device orderly u =
    let ruled = ruled-image q device q.hand orderly u.holds.log in
    let size : length (image_of device) ≡ total_words q.layout = laid_size q.layout (image_of device) (laid q.layout ruled.0 (image_of device) ruled.1) in
    record { each = λ slot lt. shows-same o q (value_of device) (slice_index (image_of device)) slot (λ w low. image_word device (word_of q.layout slot w) (omega (arith, word-within q.layout slot w lt low, size, image_size device))) (u.shows.each slot lt) }

-- and each version names there what it names on the device
pub links-image : (o : Origin) (q : State) (device : Device) → IsOrderly device → Upholds o q device → Links o q (slice_index (image_of device))
links-image o q device orderly u =
    let ruled = ruled-image q device q.hand orderly u.holds.log in
    let size : length (image_of device) ≡ total_words q.layout = laid_size q.layout (image_of device) (laid q.layout ruled.0 (image_of device) ruled.1) in
    links-stores o q (value_of device) (slice_index (image_of device))
    (λ slot v lt held. inl record { each = λ w two low. image_word device (word_of q.layout slot w) (omega (arith, word-within q.layout slot w lt low, size, image_size device)) }) u.links

pub devices-read : DevicesRead
devices-read o q device n orderly u in_use = grind (arith, ruled-image, laid_size, laid, reads, shows-image)
