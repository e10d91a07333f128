-- How many places for records an image names.
use Rattle.std.proofs.Common.{◌≡◌, inl, inr, ℕ, ◌/◌, ◌≤◌, Bool, true, false, cond, ◌&&◌, List, Option, length, set, get_or, nat_eq, nat_le, refl, sym, ◌∙◌, ap, subst, arith}
use Rattle.std.proofs.lemmas.List.{ext_get_or, length-set, get_or-set_other}
use Rattle.std.proofs.lemmas.List.FromFn.{length-map-range_with_len, get_or-map-range_with_len}
use Rattle.base.specs.Images.{is_formatted, layout_of, superblock_word}
use Rattle.base.specs.Layout.{Layout}
use Rattle.pmem.specs.Device.{Device}
use Rattle.pmem.specs.Words.{image_of, value_of}
use Rattle.journal.specs.declared.images.Images.{Ghosts}
use Rattle.pmem_file.specs.declared.journaled.JournaledPmem.{JournaledPmem}
use Rattle.pmem_file.specs.Devices.{places_of, state_of}
use Rattle.pmem_file.specs.Journaled.{NamesPlaces, is_gate_line, places_named}
use Rattle.pmem_file.specs.Shapes.{IsImageOf}
use Rattle.pmem_file.specs.Shown.{IsShown}

-- the image of a device is what it shows
pub image-shown : (device : Device) (words : List ℕ) → IsShown device words → image_of device ≡ words
image-shown device words shown =
    let size : length (image_of device) ≡ length words = length-map-range_with_len (value_of device) 0 device.words ∙ shown.sized in
    ext_get_or 0 (image_of device) words size (λ word lt.
    get_or-map-range_with_len (value_of device) 0 device.words word word 0 (omega (arith, lt, size, shown.sized)) (omega arith)
    ∙ shown.holds word (omega (arith, lt, size)))

-- a device has the places that its image names
pub names-own : {I P : Type 0} {H : Ghosts I P} (device : JournaledPmem I P H) → NamesPlaces (places_of device) (image_of (state_of device))
names-own device = subst (NamesPlaces (places_of device)) (sym (image-shown (state_of device) device.words.items device.shown)) device.named

-- a line without a gate is behind the superblock
pub behind : (places word : ℕ) → is_gate_line places (word / 8) ≡ false → 8 ≤ word
behind places word plain = grind (arith)

-- only the superblock's words count
pub names-stored : (places : ℕ) (words : List ℕ) (word value : ℕ) → 8 ≤ word → NamesPlaces places words → NamesPlaces places (set words word value)
names-stored places words word value le named formatted =
    let zero : get_or (set words word value) 0 0 ≡ get_or words 0 0 = get_or-set_other words word 0 value 0 (omega (arith, le)) in
    let three : get_or (set words word value) 3 0 ≡ get_or words 3 0 = get_or-set_other words word 3 value 0 (omega (arith, le)) in
    let same : is_formatted (set words word value) ≡ is_formatted words = λ i. nat_le 8 (length-set words word value i) && nat_eq (zero i) superblock_word in
    three ∙ named (sym same ∙ formatted)

-- an image of a layout names its places, unless nothing was ever kept in it
pub named-of : (asked : Option Layout) (a : Layout) (image : List ℕ) (places : ℕ) → IsImageOf asked a image → places ≡ a.places → places_named image places ≡ a.places
named-of asked a image places (inl laid) same = (λ i. cond (laid.formatted i) (layout_of image).places places) ∙ ap (λ (l : Layout). l.places) laid.laid_out
named-of asked a image places (inr (is, blank)) same = (λ i. cond (unformatted i) (layout_of image).places places) ∙ same
  where
    none : (b : Bool) → (b && false) ≡ false
    none true = refl
    none false = refl

    unformatted : is_formatted image ≡ false
    unformatted = (λ i. nat_le 8 (length image) && nat_eq (blank.first i) superblock_word) ∙ none (nat_le 8 (length image))
