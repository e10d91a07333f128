-- The image that a sweep leaves: its slots have the same rows, and nothing in them is in a gap.
use Rattle.std.proofs.Common.{◌≡◌, ℕ, ◌+◌, ◌-◌, ◌*◌, ◌%◌, ◌<◌, ◌≤◌, Bool, false, cond, ◌&&◌, [], get_or, length, ◌∙◌, ap, arith, nat_lt}
use Rattle.std.proofs.Math.Nat.{mod-eq_of_lt, mul-add-mod_self_left}
use Rattle.std.proofs.lemmas.Bool.{cases_lt, le-leb, lt-leb, lt-ltb, le-ltb}
use Rattle.std.proofs.lemmas.List.{get_or_past}
use Rattle.std.proofs.lemmas.List.FromFn.{length-map-range_with_len, get_or-map-range_with_len}
use Rattle.base.specs.Layout.{Layout, slot_start, slot_words}
use Rattle.base.specs.Records.{Record, is_in, is_committed, opened_gaps}
use Rattle.base.specs.Images.{Image, layout_of, ruling, slot_word, begin_of, end_of}
use Rattle.machine.specs.Openings.{is_mark, swept, lies_in_gap}
use Rattle.base.proofs.Alike.{HasRowsOf, CountsAlike}

-- ---- begins and ends

pub unmarked-low : (a : Layout) (word : ℕ) → word < 8 + 32 * a.places → is_mark a word ≡ false
unmarked-low a word low = ap (λ (b : Bool). b && nat_lt ((word - slot_start a 0) % slot_words a.version) 2) (lt-leb (slot_start a 0) word (omega (arith, low)))

-- a word of a slot is one of the first two or not
pub mark-of : (a : Layout) (slot w : ℕ) → w < slot_words a.version → is_mark a (slot_start a slot + w) ≡ nat_lt w 2
mark-of a slot w inside =
    let from : slot_start a slot + w - slot_start a 0 ≡ slot_words a.version * slot + w = omega arith in
    let rest : (slot_start a slot + w - slot_start a 0) % slot_words a.version ≡ w =
    ap (λ (n : ℕ). n % slot_words a.version) from ∙ mul-add-mod_self_left (slot_words a.version) slot w ∙ mod-eq_of_lt inside in
    λ i. le-leb (slot_start a 0) (slot_start a slot + w) (omega arith) i && nat_lt (rest i) 2

-- ---- words

pub swept-size : (image : Image) → length (swept image) ≡ length image
swept-size image =
    length-map-range_with_len (λ word. cond (is_mark (layout_of image) word && is_in (opened_gaps (ruling image)) (get_or image word 0)) 0 (get_or image word 0)) 0 (length image)

pub swept-at : (image : Image) (word : ℕ) → get_or (swept image) word 0 ≡ cond (is_mark (layout_of image) word && is_in (opened_gaps (ruling image)) (get_or image word 0)) 0 (get_or image word 0)
swept-at image word = grind (arith, cases_lt, get_or-map-range_with_len, get_or_past, swept-size)

pub swept-unmarked : (image : Image) (word : ℕ) → is_mark (layout_of image) word ≡ false → get_or (swept image) word 0 ≡ get_or image word 0
swept-unmarked image word is = swept-at image word ∙ ap (λ (b : Bool). cond (b && is_in (opened_gaps (ruling image)) (get_or image word 0)) 0 (get_or image word 0)) is

pub swept-layout : (image : Image) → layout_of (swept image) ≡ layout_of image
swept-layout image = grind (arith, swept-unmarked, unmarked-low)

pub swept-slot : (image : Image) (slot w : ℕ) → w < slot_words (layout_of image).version → slot_word (swept image) slot w ≡ cond (nat_lt w 2 && lies_in_gap image w slot) 0 (slot_word image slot w)
swept-slot image slot w inside = grind (arith, swept-layout image, swept-at image (slot_start (layout_of image) slot + w), mark-of (layout_of image) slot w inside)

-- ---- the image

pub swept-rows : (image : Image) → HasRowsOf image (swept image)
swept-rows image = grind (arith, swept-size, swept-layout, swept-slot, le-ltb)

-- under a record that commits of what is left what the old one committed
pub swept-counts : (image : Image) (r' : Record) → ((t : ℕ) → t < (ruling image).dirty → is_committed r' (cond (is_in (opened_gaps (ruling image)) t) 0 t) ≡ is_committed (ruling image) t) → (ruling image).dirty ≤ r'.dirty
    → 2 ≤ slot_words (layout_of image).version
    → ((slot : ℕ) → slot < (layout_of image).slots → begin_of image slot < (ruling image).dirty) → ((slot : ℕ) → slot < (layout_of image).slots → end_of image slot < (ruling image).dirty)
    → CountsAlike (ruling image) image r' (swept image)
swept-counts image r' same further wide begins ends = grind (arith, swept-slot, lt-ltb)

-- the record under which what is left counts as before: it has no gaps, and persists all below its dirty timestamp
abbrev pub swept_record : Record → Record
swept_record r = record { gate = r.gate; persisted = r.dirty - 1; dirty = r.dirty; gaps = []; longs = [] }
