-- What a snapshot in use covers in the words of the slots.
use Rattle.std.proofs.Common.{◌≡◌, ℕ, ◌+◌, ◌<◌, ◌≤◌, not, ◌&&◌, length, take, sym, ◌∙◌, ap, subst, arith}
use Rattle.std.specs.Prelude.{slice_index, List}
use Rattle.std.proofs.lemmas.List.FromFn.{length-map-range_with_len}
use Rattle.base.specs.declared.key.Key.{Key}
use Rattle.base.specs.Commits.{after}
use Rattle.base.proofs.Layouts.{line-words}
use Rattle.base.specs.Layout.{slot_words, slot_start, total_words}
use Rattle.base.specs.Records.{Record}
use Rattle.base.specs.Images.{Image, IsRuledBy, layout_of, begin_of, end_of, is_live, Shown}
use Rattle.machine.specs.Machine.{State}
use Rattle.pmem.specs.Device.{Device, IsOrderly}
use Rattle.pmem.specs.Words.{value_of, image_of, Survives, EachSurvivor}
use Rattle.log_area.proofs.Heads.{image_word, laid_size}
use Rattle.log_area.proofs.AtRest.{laid}
use Rattle.state_invariant.specs.Kept.{Origin, IsInUse}
use Rattle.state_invariant.specs.Shown.{word_of, counts_at, ReadsAs, SlotsShow}
use Rattle.state_invariant.specs.Links.{Links}
use Rattle.state_invariant.proofs.Commits.{committed-bounds, uncommitted-gap}
use Rattle.state_invariant.proofs.Records.{above-gaps}
use Rattle.state_invariant.proofs.reads.SweptGaps.{live-agrees}
use Rattle.device_invariant.specs.Upholds.{Upholds}
use Rattle.device_invariant.proofs.Words.{word-within}
use Rattle.device_invariant.proofs.reads.Images.{devices-read, ruled-image, shows-image, links-image}
use Rattle.snapshot.specs.Snapshots.{Seen, covers}
use Rattle.simulation.specs.sessions.Sees.{Sees, SeesBegins, ReadsBy}
use Rattle.simulation.specs.sessions.Laws.{Reads}

module _ (o : Origin) (q : State) (device : Device) (snapshot : Seen) (begun : ℕ) (orderly : IsOrderly device) (u : Upholds o q device) (in_use : IsInUse q begun) (sees : Sees o q snapshot begun) where
  abbrev image : Image
  image = image_of device

  pub ruled : (r : Record) × IsRuledBy q.layout r image
  ruled = ruled-image q device q.hand orderly u.holds.log

  pub size : length image ≡ total_words q.layout
  size = laid_size q.layout image (laid q.layout ruled.0 image ruled.1)

  reading : ReadsAs o q image begun
  reading = devices-read o q device begun orderly u in_use

  -- a word of a slot has a value that may survive
  survives : (slot w : ℕ) → slot < q.layout.slots → w < slot_words q.layout.version → Survives device (word_of q.layout slot w) (slice_index image (word_of q.layout slot w))
  survives slot w lt low =
      let inside : word_of q.layout slot w < device.words = omega (arith, word-within q.layout slot w lt low, size, length-map-range_with_len (value_of device) 0 device.words) in
      subst (Survives device (word_of q.layout slot w)) (sym (image_word device (word_of q.layout slot w) inside)) (orderly.some (word_of q.layout slot w) inside)

  some-words : 2 ≤ slot_words q.layout.version
  some-words = omega (arith, line-words q.layout.version)

  -- the words of the slots are below the next timestamp
  below : (slot w : ℕ) → EachSurvivor device (word_of q.layout slot w) (λ x. x < q.next) → slot < q.layout.slots → w < slot_words q.layout.version → slice_index image (word_of q.layout slot w) < q.next
  below slot w each lt low = each.each (slice_index image (word_of q.layout slot w)) (survives slot w lt low)

  pub shows : SlotsShow o q (slice_index image)
  shows = shows-image o q device orderly u

  pub links : Links o q (slice_index image)
  links = links-image o q device orderly u

  live-same : (slot : ℕ) → slot < q.layout.slots → is_live (covers snapshot) image slot ≡ is_live (counts_at o q begun) image slot
  live-same slot lt =
      let begin : begin_of image slot ≡ slice_index image (word_of q.layout slot 0) = ap (λ a. slice_index image (slot_start a slot + 0)) ruled.1.laid_out in
      let end : end_of image slot ≡ slice_index image (word_of q.layout slot 1) = ap (λ a. slice_index image (slot_start a slot + 1)) ruled.1.laid_out in
      let hold = u.holds.slots.each slot lt in
      ap (λ x. covers snapshot x && not (covers snapshot (end_of image slot))) begin ∙ ap (λ x. covers snapshot (slice_index image (word_of q.layout slot 0)) && not (covers snapshot x)) end
      ∙ live-agrees o q u.keeps (slice_index image) slot lt begun in_use (covers snapshot)
      (λ out. sees.covered (slice_index image (word_of q.layout slot 0)) (below slot 0 hold.begin_before lt (omega (arith, some-words))) out)
      (λ out. sees.covered (slice_index image (word_of q.layout slot 1)) (below slot 1 hold.end_before lt (omega (arith, some-words))) out)
      (shows.each slot lt)
      ∙ sym (ap (λ x. counts_at o q begun x && not (counts_at o q begun (end_of image slot))) begin ∙ ap (λ x. counts_at o q begun (slice_index image (word_of q.layout slot 0)) && not (counts_at o q begun x)) end)

  -- which begins it covers
  pub begins-seen : SeesBegins o q snapshot begun image
  begins-seen = grind (arith, live-same, committed-bounds, uncommitted-gap, above-gaps)

  in-layout : (slot : ℕ) → slot < (layout_of image).slots → slot < q.layout.slots
  in-layout slot lt = subst (λ a. slot < a.slots) ruled.1.laid_out lt

  shown : (key : Key) (row : List ℕ) → Shown (covers snapshot) image key row → Shown (counts_at o q begun) image key row
  shown key row s = let (slot, lt, live, at, is) = s in (slot, lt, sym (live-same slot (in-layout slot lt)) ∙ live, at, is)

  unshown : (key : Key) (row : List ℕ) → Shown (counts_at o q begun) image key row → Shown (covers snapshot) image key row
  unshown key row s = let (slot, lt, live, at, is) = s in (slot, lt, live-same slot (in-layout slot lt) ∙ live, at, is)

  pub reads-by : ReadsBy (covers snapshot) q.layout (after (take begun q.history)) image
  reads-by = record {
    rows = λ key row. (λ s. (reading.rows key row).0 (shown key row s), λ there. unshown key row ((reading.rows key row).1 there));
    once = λ x y lt_x lt_y live_x live_y same. reading.once x y lt_x lt_y (sym (live-same x lt_x) ∙ live_x) (sym (live-same y lt_y) ∙ live_y) same;
    fits = λ slot lt live. reading.fits slot lt (sym (live-same slot lt) ∙ live);
  }

pub reads : Reads
reads o q device snapshot begun orderly u in_use sees = reads-by o q device snapshot begun orderly u in_use sees
