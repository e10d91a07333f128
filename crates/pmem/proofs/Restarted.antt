-- A device that begins with these words.
use Rattle.std.proofs.Common.{◌≡◌, ℕ, ◌<◌, List, length, get_or, ◌∙◌, arith, sym, ap, subst}
use Rattle.std.proofs.lemmas.Bool.{lt-ltb}
use Rattle.std.proofs.lemmas.List.{ext_get_or}
use Rattle.std.proofs.lemmas.List.FromFn.{length-map-range_with_len, get_or-map-range_with_len}
use Rattle.pmem.specs.Device.{restarted, Device}
use Rattle.pmem.specs.Words.{IsAtRest, image_of, value_of}

pub restarted-rests : (words : List ℕ) → IsAtRest (restarted words)
restarted-rests words word lt = grind (arith, lt-ltb) steps 800000

value-restarted : (words : List ℕ) (word : ℕ) → word < length words → value_of (restarted words) word ≡ get_or words word 0
value-restarted words word lt = grind (arith, lt-ltb) steps 800000

pub image-restarted : (words : List ℕ) → image_of (restarted words) ≡ words
image-restarted words =
    let size : length (image_of (restarted words)) ≡ length words = length-map-range_with_len (value_of (restarted words)) 0 (length words) in
    ext_get_or 0 (image_of (restarted words)) words size (λ word lt.
    get_or-map-range_with_len (value_of (restarted words)) 0 (length words) word word 0 (omega (arith, lt, size)) (omega arith)
    ∙ value-restarted words word (omega (arith, lt, size)))

-- what holds of the image that a device began with holds of its words
pub of-restarted : (P : List ℕ → Type 0) (device : Device) → (image : List ℕ) × P image × (device ≡ restarted image) → P (image_of device)
of-restarted P device (image, holds, is) = subst P (sym (ap image_of is ∙ image-restarted image)) holds
