-- What the words of a file hold that is opened as a device.
use Rattle.std.specs.Prelude.{◌≡◌, ◌⊎◌, ℕ, ◌+◌, ◌-◌, ◌*◌, ◌/◌, ◌<◌, ◌≤◌, ◌^◌, if◌then◌else◌, List, ◌++◌, drop, length, max, min, replicate, slice_index, take, true, IsTrue, Option, Some}
use Rattle.std.specs.IoError.{error_kind}
use Rattle.std.specs.declared.io.ErrorKind.TheVariants.{OutOfMemory}
use Rattle.base.specs.Images.{layout_of}
use Rattle.base.specs.Layout.{Layout, is_in_limits, is_large, slot_start, total_words}
use Rattle.journal.specs.Files.{HasTail, IsFile, Opens, tail_of}
use Rattle.log_area.specs.Rulings.{IsLaidOut}
use Rattle.pmem_file.specs.declared.opening.OpenError.{OpenError}
use Rattle.pmem_file.specs.declared.opening.OpenError.TheVariants.{Io}
use Rattle.pmem_file.specs.declared.shape.Shape.{Shape}

-- nothing was ever kept in these words: they are as many as an image of the layout has, and word 0 and those of all slots are 0
pub record IsBlank (a : Layout) (words : List ℕ) : Type 0 where
  pub size : length words ≡ total_words a
  pub first : slice_index words 0 ≡ 0
  pub slots : (word : ℕ) → slot_start a 0 ≤ word → word < total_words a → slice_index words word ≡ 0

-- the words are an image of this layout; if nothing was ever kept in them, of the one that is asked for, if one is
abbrev pub IsImageOf : Option Layout → Layout → List ℕ → Type 0
IsImageOf asked a words = IsLaidOut a words ⊎ ((asked ≡ Some a) × IsBlank a words)

-- the words are such an image, and this number of places for records is that of its layout
pub record HasItsPlaces (asked : Option Layout) (words : List ℕ) (places : ℕ) : Type 0 where
  pub layout : Layout
  pub image : IsImageOf asked layout words
  pub places_are : places ≡ layout.places

-- how many words a file of this shape has
abbrev pub whole : Shape → ℕ
whole shape = shape.words + shape.room + 8

-- the words as a file of this shape, with 0 for each that is missing
abbrev pub padded : Shape → List ℕ → List ℕ
padded shape words = words ++ replicate (whole shape - length words) 0

-- The words have this shape: padded, they stand for an image of a layout with its places.
-- Excluded: a device opened with places that aren't those of its image's layout.
pub record HasShape (asked : Option Layout) (words : List ℕ) (shape : Shape) : Type 0 where
  pub fits : whole shape < 2 ^ 58
  pub within : length words ≤ whole shape
  pub image : List ℕ
  pub opens : Opens shape.words shape.room (padded shape words) image
  pub has_places : HasItsPlaces asked image shape.places

-- if a tail at the end of the words names how many the image has and how much room the journal has, the shape has these, unless all
-- the words are an image alone
abbrev pub KeepsNames : Option Layout → List ℕ → Shape → Type 0
KeepsNames asked words shape = (size room : ℕ) → IsFile size room (length words) → HasTail size room words → ((own : Layout) → ¬ IsImageOf asked own words) → (shape.words ≡ size) × (shape.room ≡ room)

-- the room of an entry of all lines of an image of `words`, in whole lines
abbrev pub least_room : ℕ → ℕ
least_room words = (9 * (words / 8) + 23) / 8 * 8

-- How much room a journal has at least behind an image of the layout: for an entry of all lines. Behind a large image an ample one is
-- enough, which has room for 58,254 lines.
abbrev pub room_needed : Layout → ℕ
room_needed a = if is_large a.version then min (least_room (total_words a)) 524288 else least_room (total_words a)

-- each of these words is 0, or the one that the first tail of a file has there, behind an image of `size` words and a journal of
-- `room`; its first is 0, so it doesn't count yet
pub record IsFirstTail (size room : ℕ) (tail : List ℕ) : Type 0 where
  pub first : slice_index tail 0 ≡ 0
  pub names : (word : ℕ) → word < length tail → (slice_index tail word ≡ 0) ⊎ (slice_index tail word ≡ slice_index (tail_of 0 size room true) word)

-- behind an image there is nothing yet but some words of the first tail: the file was being made longer
pub record IsNothingBehind (size room : ℕ) (behind : List ℕ) : Type 0 where
  pub zeros : (word : ℕ) → word < room → slice_index behind word ≡ 0
  pub tail : IsFirstTail size room (drop room behind)

-- a shape that is made for an image of the layout: its journal has the room that it needs there
pub record IsMadeFor (a : Layout) (shape : Shape) : Type 0 where
  pub words_are : shape.words ≡ total_words a
  pub places_are : shape.places ≡ a.places
  pub entry : room_needed a ≤ shape.room
  pub fits : whole shape < 2 ^ 58

-- ---- what a file of ours holds, however it was left

-- the room with which a journal is made: for three entries of all lines, if an ample one has as much, and what it needs at least
abbrev pub room_made : Layout → ℕ
room_made a = max (max (room_needed a) (min (3 * least_room (total_words a)) 524288)) 131072

-- the room with which older programs made it
abbrev pub room_older : Layout → ℕ
room_older a = max (least_room (total_words a)) 131072

-- an image with a journal behind it, which has the room that it needs there
pub record IsJournaled (asked : Option Layout) (words : List ℕ) : Type 0 where
  pub size : ℕ
  pub room : ℕ
  pub layout : Layout
  pub image : List ℕ
  pub is_file : IsFile size room (length words)
  pub tail : HasTail size room words
  pub entry : room_needed layout ≤ room
  pub opens : Opens size room words image
  pub image_is : IsImageOf asked layout image

-- an image behind which a journal was being made: nothing counts there yet, and no other layout is named
pub record IsGrowing (asked : Option Layout) (words : List ℕ) : Type 0 where
  pub layout : Layout
  pub room : ℕ
  pub made : (room ≡ room_made layout) ⊎ (room ≡ room_older layout)
  pub size : length words ≡ total_words layout + room + 8
  pub image_is : IsImageOf asked layout (take (total_words layout) words)
  pub named : IsTrue (is_in_limits (layout_of words)) → layout_of words ≡ layout
  pub behind : IsNothingBehind (total_words layout) room (drop (total_words layout) words)

-- behind an image of `size` words, which the superblock in place names, a journal was being made
pub record IsGrown (size : ℕ) (words : List ℕ) : Type 0 where
  pub some : 5 ≤ length words
  pub limits : IsTrue (is_in_limits (layout_of words))
  pub size_is : size ≡ total_words (layout_of words)
  pub room : ℕ
  pub made : (room ≡ room_made (layout_of words)) ⊎ (room ≡ room_older (layout_of words))
  pub whole_is : length words ≡ size + room + 8
  pub behind : IsNothingBehind size room (drop size words)

-- One of these, or an image alone, as closing leaves it. For such words a shape is found, and only lack of memory is reported.
-- Excluded: a file of ours that is rejected.
abbrev pub IsOurs : Option Layout → List ℕ → Type 0
IsOurs asked words = ((layout : Layout) × IsImageOf asked layout words) ⊎ (IsJournaled asked words ⊎ IsGrowing asked words)

-- what is reported if memory is refused
unfoldable pub IsForMemory : OpenError → Type 0
IsForMemory (Io error) = error_kind error ≡ OutOfMemory
IsForMemory _ = ⊥
