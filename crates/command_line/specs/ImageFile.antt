-- How a file holds the words of an image.
use Rattle.std.specs.Prelude.{◌≡◌, ℕ, ◌*◌, ◌%◌, ◌<◌, List, Bool, ◌==◌, ◌&&◌, nat_le, length, drop, slice_index}
use Rattle.std.specs.List.{flat_map}
use Rattle.byteorder.specs.Endian.{little_bytes, little_number}

-- a multiple of 8, and no longer than the longest image
abbrev pub is_image_length : ℕ → Bool
is_image_length bytes = bytes % 8 == 0 && nat_le bytes 8589951040

-- the words in order, 8 bytes each, the lowest byte first
abbrev pub bytes_of_words : List ℕ → List ℕ
bytes_of_words words = flat_map (little_bytes 8) words

-- the file has 8 bytes for each word, and they are that word's, the lowest byte first
pub record HoldsWords (file words : List ℕ) : Type 0 where
  pub size : length file ≡ 8 * length words
  pub each : (k : ℕ) → k < length words → slice_index words k ≡ little_number 8 (drop (8 * k) file)

-- The file has the bytes of this image, and the words that are read from it are the image's.
-- Excluded: a file that is written as one image and read as another.
pub record IsFileOf (image file : List ℕ) : Type 0 where
  pub bytes : file ≡ bytes_of_words image
  pub holds : HoldsWords file image
