-- Which slots a sweep stores in, and that it leaves the others as they are.
use Rattle.std.proofs.Common.{◌≡◌, ℕ, ◌+◌, ◌*◌, ◌<◌, Bool, ◌||◌, List, [], ◌∷◌, ◌++◌, map, get_or, length, refl, sym, lit<, ◌∙◌, ap, subst, arith}
use Rattle.std.specs.Prelude.{Option, None}
use Rattle.std.specs.List.{range_with_len}
use Rattle.std.proofs.lemmas.List.FromFn.{map-range_with_len_more, length-map-range_with_len, get_or-map-range_with_len}
use Rattle.base.specs.declared.gap.Gap.{Gap}
use Rattle.base.specs.Layout.{Layout, total_words, slot_start, slot_words, opened_version, opened_layout}
use Rattle.base.proofs.Layouts.{opened-words}
use Rattle.machine.specs.Laws.{OpensUpdated}
use Rattle.base.specs.Records.{Record, is_in, opened_gaps}
use Rattle.base.specs.Images.{Image, layout_of, slot_word, IsRuledBy}
use Rattle.machine.specs.Openings.{lies_in_gap, updated}
use Rattle.pmem.specs.Device.{Device}
use Rattle.pmem.specs.Words.{value_of, image_of}
use Rattle.version_slot.specs.Words.{slot_at}
use Rattle.recovery.proofs.reads.Visits.{word-same}
use Rattle.recovery.proofs.openings.Devices.{under}
use Rattle.recovery.specs.Sweeping.{hits, hits_below, AreHits}

-- ---- of all slots

pub hits-none : (image : Image) → hits_below image 0 ≡ []
unfolding hits_below
hits-none image = refl

pub hits-more : (image : Image) (slot : ℕ) → hits_below image (slot + 1) ≡ hits_below image slot ++ hits image slot ∷ []
unfolding hits_below
hits-more image slot = map-range_with_len_more (hits image) 0 slot slot (omega arith)

pub are-hits : (image : Image) (layout : Layout) (gaps : Option (List Gap)) (hits : List Bool) → (gaps ≡ None → hits ≡ hits_below image layout.slots) → AreHits image layout gaps hits
unfolding AreHits
are-hits image layout gaps hits many = many

-- the slot of a device whose begin or end is in a gap
pub hit-here : (device : Device) (layout : Layout) (r : Record) (slot begin end : ℕ) → device.words ≡ total_words layout → IsRuledBy layout r (image_of device) → slot < layout.slots
    → begin ≡ slot_at layout slot (value_of device) 0 → end ≡ slot_at layout slot (value_of device) 1 → (is_in (opened_gaps r) begin || is_in (opened_gaps r) end) ≡ hits (image_of device) slot
hit-here device layout r slot begin end size rules h begun ended =
    let read = under layout r (image_of device) rules in
    let begin-same = begun ∙ sym (word-same device layout r slot size read h 0 (lit< tt)) in
    let end-same = ended ∙ sym (word-same device layout r slot size read h 1 (lit< tt)) in
    λ i. is_in (opened_gaps (sym rules.by_record i)) (begin-same i) || is_in (opened_gaps (sym rules.by_record i)) (end-same i)

pub where-many : (image : Image) (layout : Layout) (gaps : Option (List Gap)) (hits : List Bool) → AreHits image layout gaps hits → gaps ≡ None → hits ≡ hits_below image layout.slots
unfolding AreHits
where-many image layout gaps hits are many = are many

-- ---- one slot

pub hits-size : (image : Image) (n : ℕ) → length (hits_below image n) ≡ n
unfolding hits_below
hits-size image n = length-map-range_with_len (λ slot. lies_in_gap image 0 slot || lies_in_gap image 1 slot) 0 n

pub hit-at : (image : Image) (n slot : ℕ) (d : Bool) (hits : List Bool) → hits ≡ hits_below image n → slot < n → get_or hits slot d ≡ (lies_in_gap image 0 slot || lies_in_gap image 1 slot)
unfolding hits_below
hit-at image n slot d hits are h = ap (λ (xs : List Bool). get_or xs slot d) are ∙ get_or-map-range_with_len (λ slot. lies_in_gap image 0 slot || lies_in_gap image 1 slot) 0 n slot slot d h (omega arith)

-- ---- an image that is updated first

same-width : (version : ℕ) → slot_words (opened_version version) ≡ slot_words version
same-width version = opened-words version

module _ (image : Image) (up : OpensUpdated image) where
  word-updated : (slot w : ℕ) → slot_word (updated image) slot w ≡ slot_word image slot w
  word-updated slot w =
      let a = layout_of image in
      ap (λ (l : Layout). get_or (updated image) (slot_start l slot + w) 0) up.laid_out
      ∙ ap (λ (width : ℕ). get_or (updated image) (8 + 32 * a.places + width * slot + w) 0) (same-width a.version)
      ∙ up.words (slot_start a slot + w) (λ e. omega (arith, e))

  gap-updated : (w slot : ℕ) → lies_in_gap (updated image) w slot ≡ lies_in_gap image w slot
  gap-updated w slot = λ i. is_in (opened_gaps (up.ruled i)) (word-updated slot w i)

  pub hits-updated : (layout : Layout) (gaps : Option (List Gap)) (hits : List Bool) → AreHits image layout gaps hits → AreHits (updated image) (opened_layout layout) gaps hits
  unfolding AreHits hits_below
  hits-updated layout gaps hits are none = are none ∙ (λ i. map (λ slot. sym (gap-updated 0 slot) i || sym (gap-updated 1 slot) i) (range_with_len 0 layout.slots))

-- it is known of the image as it is then
pub hits-now : (before now : Image) (up : OpensUpdated before) (layout today : Layout) (gaps : Option (List Gap)) (hits : List Bool) → AreHits before layout gaps hits → now ≡ updated before → today ≡ opened_layout layout → AreHits now today gaps hits
hits-now before now up layout today gaps hits are same is-today =
    subst (λ (i : Image). AreHits i today gaps hits) (sym same) (subst (λ (l : Layout). AreHits (updated before) l gaps hits) (sym is-today) (hits-updated before up layout gaps hits are))
