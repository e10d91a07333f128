-- What a slot of a device holds in its image.
use Rattle.std.proofs.Common.{◌≡◌, ℕ, ◌+◌, ◌^◌, ◌<◌, ◌≤◌, false, length, get_or, refl, sym, ◌∙◌, ap, subst, arith}
use Rattle.std.proofs.lemmas.Bool.{cases_lt}
use Rattle.std.proofs.lemmas.List.{get_or_past}
use Rattle.std.proofs.lemmas.List.FromFn.{length-map-range_with_len, get_or-map-range_with_len}
use Rattle.base.specs.Layout.{Layout, slot_start, slot_words, total_words, used_words}
use Rattle.base.specs.Images.{layout_of, slot_word, begin_of, end_of, is_misfit}
use Rattle.base.proofs.Layouts.{line-words, slot_within, used-words}
use Rattle.pmem.specs.Device.{Device, IsOrderly}
use Rattle.pmem.specs.Words.{value_of, image_of}
use Rattle.version_slot.specs.declared.words.Slot.{Slot}
use Rattle.version_slot.specs.Words.{Fits, IsVersion, IsSlot, slot_at}
use Rattle.version_slot.proofs.ImageSlots.{version_of, holds_version, well_formed, key_is, row_is_of, link_of_is}
use Rattle.index.proofs.Ways.{HoldsAs}

-- ---- the words of a slot, on a device and in its image

module _ (device : Device) (a : Layout) (slot : ℕ) (size : device.words ≡ total_words a) (h : slot < a.slots) (laid : layout_of (image_of device) ≡ a) where
  same-width : slot_words (layout_of (image_of device)).version ≡ slot_words a.version
  same-width = ap (λ (l : Layout). slot_words l.version) laid

  length-image : length (image_of device) ≡ device.words
  length-image = length-map-range_with_len (value_of device) 0 device.words

  word-at : (word : ℕ) → word < device.words → get_or (image_of device) word 0 ≡ value_of device word
  word-at word lt = get_or-map-range_with_len (value_of device) 0 device.words word word 0 lt (omega arith)

  in-slot : (w : ℕ) → w < slot_words a.version → slot_start a slot + w < device.words
  in-slot w lt = omega (arith, slot_within a slot h, lt, size)

  word-same : (w : ℕ) → w < slot_words a.version → slot_word (image_of device) slot w ≡ slot_at a slot (value_of device) w
  word-same w lt = ap (λ (l : Layout). get_or (image_of device) (slot_start l slot + w) 0) laid ∙ word-at (slot_start a slot + w) (in-slot w lt)

  within : slot < (layout_of (image_of device)).slots
  within = omega (arith, h, ap (λ (l : Layout). l.slots) laid)

  whole : total_words (layout_of (image_of device)) ≤ length (image_of device)
  whole = omega (arith, length-image, size, ap total_words laid)

  held : (s : Slot) → IsSlot a (slot_at a slot (value_of device)) s → IsVersion (layout_of (image_of device)) (slot_word (image_of device) slot) s.version
  held s is = subst (λ (l : Layout). IsVersion l (slot_word (image_of device) slot) s.version) (sym laid) (record {
    each = λ w low high. word-same w (omega (arith, high, (used-words a.version (length s.version.row)).1)) ∙ is.version.each w low high;
    fits = is.version.fits;
  })

  fits-words : IsOrderly device → (w : ℕ) → get_or (image_of device) w 0 < 2 ^ 64
  fits-words orderly w = grind (arith, cases_lt, word-at, get_or_past, length-image) steps 800000

  -- words that aren't a misfit hold something
  pub no-slot : IsOrderly device → ((s : Slot) → IsSlot a (slot_at a slot (value_of device)) s → ⊥) → is_misfit (image_of device) slot ≡ false → ⊥
  no-slot orderly none fits =
      let image = image_of device in
      let version = holds_version image slot within whole (fits-words orderly) fits in
      none (record { begin = slot_at a slot (value_of device) 0; end = slot_at a slot (value_of device) 1; version = version_of image slot })
      (record {
        begin = refl;
        end = refl;
        version = record {
          each = λ w low high.
              sym (word-same w (omega (arith, high, (used-words a.version (length (version_of image slot).row)).1)))
              ∙ version.each w low (subst (λ (l : Layout). w < used_words l.version (length (version_of image slot).row)) (sym laid) high);
          fits = subst (λ (l : Layout). Fits l (version_of image slot)) laid version.fits;
        };
      })

  pub begin-same : begin_of (image_of device) slot ≡ slot_at a slot (value_of device) 0
  begin-same = word-same 0 (omega (arith, line-words a.version))

  pub end-same : end_of (image_of device) slot ≡ slot_at a slot (value_of device) 1
  end-same = word-same 1 (omega (arith, line-words a.version))

  -- what is read of it
  pub holds-as : (s : Slot) → IsSlot a (slot_at a slot (value_of device)) s → HoldsAs (image_of device) slot s
  holds-as s is = grind (arith, within, well_formed, whole, held, begin-same, end-same, key_is, row_is_of, link_of_is)
