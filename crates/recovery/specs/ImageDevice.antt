-- The words of an image as a device at rest, on which operations fail.
use Rattle.std.proofs.Common.{◌≡◌, inl, inr, ℕ, ◌^◌, ◌<◌, Bool, true, false, cond, List, [], ◌∷◌, Some, length, get_or, refl, subst, sym, nat_lt}
use Rattle.std.proofs.lemmas.Bool.{lt-ltb}
use Rattle.pmem.specs.Device.{Device, Entry, newest, survivors_in, survivors_at, IsAmong, IsOrderly, restarted}
use Rattle.pmem.specs.Tallies.{number_of}
use Rattle.recovery.specs.Words.{AreWords}
use Rattle.recovery.specs.declared.image_device.ImageDevice.{ImageDevice}

-- the words, at rest, and how many operations failed
abbrev pub device_of : ImageDevice → Device
device_of image = record (restarted image.words.now) { failures = number_of image.failures }

-- an entry of a device at rest
abbrev first : ℕ → Entry
first value = record { value = value; born = 0; flushed = λ actor. false; kept = Some 0 }

-- a history of that entry alone, or an empty one
abbrev only : Bool → ℕ → List Entry
only b value = cond b (first value ∷ []) []

now_in : (b : Bool) (value : ℕ) → survivors_at 0 (only b value) ≡ survivors_in (only b value)
now_in true value = refl
now_in false value = refl

fits_in : (b : Bool) (value x : ℕ) → value < 2 ^ 64 → IsAmong (survivors_in (only b value)) x → x < 2 ^ 64
fits_in true value x fits (inl e) = subst (λ (n : ℕ). n < 2 ^ 64) (sym e) fits
fits_in true value x fits (inr never) = absurd never
fits_in false value x fits never = absurd never

some_in : (b : Bool) (value : ℕ) → b ≡ true → IsAmong (survivors_in (only b value)) (newest (only b value))
some_in true value is = inl refl
some_in false value is = absurd (cc is)

-- such a device is orderly, however many operations failed
pub orderly_image : (words : List ℕ) (failures : ℕ) → AreWords words → IsOrderly (record (restarted words) { failures = failures })
orderly_image words failures fits = record {
  now = λ word. now_in (nat_lt word (length words)) (get_or words word 0);
  fits = λ word x among. fits_in (nat_lt word (length words)) (get_or words word 0) x (fits word) among;
  some = λ word lt. some_in (nat_lt word (length words)) (get_or words word 0) (lt-ltb word (length words) lt);
}
