-- What is read of a slot of a device.
use Rattle.std.proofs.Common.{◌≡◌, ℕ, ◌+◌, ◌%◌, ◌^◌, ◌<◌, get_or, ◌∙◌, ap, arith}
use Rattle.base.specs.Layout.{Layout, slot_start, slot_words, total_words}
use Rattle.base.specs.Images.{layout_of, slot_word, key_of}
use Rattle.base.proofs.Layouts.{line-words, slot_within}
use Rattle.pmem.specs.Device.{Device}
use Rattle.pmem.specs.Words.{value_of, image_of}
use Rattle.log_area.proofs.Heads.{image_word}
use Rattle.version_slot.specs.Words.{key_in, slot_at}

module _ (device : Device) (a : Layout) (slot : ℕ) (size : device.words ≡ total_words a) (h : slot < a.slots) (laid : layout_of (image_of device) ≡ a) where
  in-slot : (w : ℕ) → w < slot_words a.version → slot_start a slot + w < device.words
  in-slot w lt = omega (arith, slot_within a slot h, lt, size)

  word-same : (w : ℕ) → w < slot_words a.version → slot_word (image_of device) slot w ≡ slot_at a slot (value_of device) w
  word-same w lt = ap (λ (l : Layout). get_or (image_of device) (slot_start l slot + w) 0) laid ∙ image_word device (slot_start a slot + w) (in-slot w lt)

  -- the key in a slot's words is the image's
  pub key-read : key_of (image_of device) slot ≡ key_in (slot_at a slot (value_of device))
  key-read = λ i. record { table = word-same 3 (omega (arith, line-words a.version)) i % 2 ^ 16; key = word-same 2 (omega (arith, line-words a.version)) i }
