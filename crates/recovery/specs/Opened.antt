-- The record that opening writes, what opening leaves alone, and what it gives.
use Rattle.std.specs.Prelude.{◌≡◌, ◌⊎◌, ℕ, ◌+◌, ◌*◌, ◌<◌, ◌≤◌, Bool, false, not, nat_eq, ◌&&◌, if◌then◌else◌, List, [], ◌++◌, length, map, slice_index, Option, Some, None}
use Rattle.std.specs.List.{range_with_len}
use Rattle.base.specs.declared.gap.Gap.{Gap}
use Rattle.base.specs.declared.fault.Fault.{Fault}
use Rattle.base.specs.declared.fault.Fault.TheVariants.{OutOfMemory, Device as DeviceFault}
use Rattle.base.specs.Actors.{committer}
use Rattle.base.specs.Layout.{Layout, opened_layout, opened_version}
use Rattle.base.specs.Records.{Record, opened_gaps}
use Rattle.base.specs.Images.{Image, layout_of, ruling, is_shown, opening_fault, needs_sweep, IsRuledBy}
use Rattle.machine.specs.Openings.{Counts, opening_record, opening_counts, record_counts, gaps_kept, opened_slots, updated, updates}
use Rattle.pmem.specs.Device.{Device}
use Rattle.pmem.specs.Persisting.{set_operations}
use Rattle.pmem.specs.Trace.{Operation}
use Rattle.pmem.specs.Words.{value_of, image_of, IsSettledAt, Makes, Spares, operations_of}
use Rattle.log_area.specs.Rulings.{HoldsRecord}
use Rattle.log_area.specs.Writings.{IsOutside, begun, record_operations}
use Rattle.recovery.specs.Gaps.{few_gaps}
use Rattle.recovery.specs.Slots.{free_below}
use Rattle.recovery.specs.Live.{live_below, opened_slot}
use Rattle.recovery.specs.Held.{HavePlaces}
use Rattle.recovery.specs.Sweeping.{AreHits, is_hit, whole_sweep}
use Rattle.recovery.specs.declared.examining.Examined.{Examined as ExaminedValue}
use Rattle.recovery.specs.declared.rows.LiveSlot.{LiveSlot}
use Rattle.recovery.specs.declared.rows.OpenedSlot.{OpenedSlot}

-- the words after the log area are the same
pub record HasSlotsOf (before image : Image) : Type 0 where
  pub size : length image ≡ length before
  pub laid_out : layout_of image ≡ layout_of before
  pub same : (word : ℕ) → 8 + 32 * (layout_of before).places ≤ word → slice_index image word ≡ slice_index before word

-- the first fault, or lack of memory
unfoldable pub Refuses : Image → Fault → Type 0
Refuses image fault = (opening_fault image ≡ Some fault) ⊎ (fault ≡ OutOfMemory)

-- what is learnt about an image that opens
pub record IsExamined (image : Image) (layout : Layout) (r : Record) (gaps : Option (List Gap)) (free : List Bool) (live : List LiveSlot) : Type 0 where
  pub opens : opening_fault image ≡ None
  pub rules : IsRuledBy layout r image
  pub gaps_are : gaps ≡ few_gaps r
  pub free_are : free ≡ free_below image layout.slots
  pub live_are : live ≡ live_below image layout.slots

-- the same, as a word that isn't unfolded
unfoldable pub Examined : Image → Layout → Record → Option (List Gap) → List Bool → List LiveSlot → Type 0
Examined image layout r gaps free live = IsExamined image layout r gaps free live

-- what was examined of an image that opens, with these live slots, the places of its keys and what a sweep stores in
pub record HasExamined (image : Image) (found : ExaminedValue) (live : List LiveSlot) : Type 0 where
  pub examined : Examined image found.geometry found.ruling found.gaps found.free.items live
  pub placed : HavePlaces live found.places.entries
  pub hits : AreHits image found.geometry found.gaps found.hits.items

-- which slots are free when the image is opened: those that aren't live
abbrev pub free_in : Image → List Bool
free_in image = map (λ slot. not (is_shown (ruling image) image slot)) (range_with_len 0 (layout_of image).slots)

-- the word is a begin or an end that is in a gap, and there are more than eight gaps, so that opening sweeps it
abbrev pub is_swept : Device → ℕ → Bool
is_swept device word = needs_sweep (image_of device) && is_hit (layout_of (image_of device)) (ruling (image_of device)) device word

-- the word is that of the version, which opening changes
abbrev pub is_updated : Device → ℕ → Bool
is_updated device word = updates (image_of device) && nat_eq word 1

-- the version becomes today's, if the image has another one
abbrev pub update_operations : Image → List Operation
update_operations image = if updates image then set_operations committer 1 (opened_version (layout_of image).version) else []

-- gaps are swept if a record can't hold them
abbrev pub gap_operations : Layout → Record → Device → List Operation
gap_operations layout r device = if needs_sweep (image_of device) then whole_sweep layout r (value_of device) else []

-- and the record is written with which a life begins
abbrev pub today_operations : Layout → Record → Device → List Operation
today_operations layout r device = gap_operations layout r device ++ record_operations layout (opening_record layout r (gaps_kept (opened_gaps r)))

-- the word isn't in the record's place, and opening neither sweeps nor updates it
abbrev pub IsLeftAlone : Device → Layout → Record → ℕ → Type 0
IsLeftAlone device layout r word = IsOutside (begun layout r) word × (is_swept device word ≡ false) × (is_updated device word ≡ false)

-- Opening gives the image its version before it stores anything else: an image without the version that opening leaves is
-- still as it was before
abbrev pub IsUpdatedFirst : Image → Image → Type 0
IsUpdatedFirst before image = (layout_of image ≡ opened_layout (layout_of before)) ⊎ (image ≡ before)

-- this many operations of each kind lead from one device to the other, and none failed
abbrev pub MakesAll : Counts → Device → Device → Type 0
MakesAll counts old new = Makes counts.stores counts.flushes counts.fences 0 old new

-- those that opening the image makes
abbrev pub MakesOpening : Image → Device → Device → Type 0
MakesOpening image old new = MakesAll (opening_counts image) old new

-- The old device, at rest and of today's version, was opened, and the new one is what that made of it: this record rules
-- it, the superblock is as it was, and so are the slots, except for what a sweep of more than eight gaps stores
pub record HasOpenedToday (old new : Device) (layout : Layout) (r : Record) (next : ℕ) (free : List Bool) (live : List LiveSlot) : Type 0 where
  pub opens : opening_fault (image_of old) ≡ None
  pub layout_is : layout ≡ layout_of (image_of old)
  pub record_is : r ≡ opening_record (layout_of (image_of old)) (ruling (image_of old)) (gaps_kept (opened_gaps (ruling (image_of old))))
  pub next_is : next ≡ (ruling (image_of old)).dirty
  pub free_is : free ≡ free_in (image_of old)
  pub live_is : live ≡ live_below (image_of old) (layout_of (image_of old)).slots
  pub holds : HoldsRecord layout r new
  pub left_alone : Spares (λ word. IsOutside (begun layout r) word × (is_swept old word ≡ false)) old new
  pub superblock : (word : ℕ) → word < 8 → IsSettledAt new word (value_of old word)
  pub slots : (word : ℕ) → 8 + 32 * layout.places ≤ word → word < old.words → IsSettledAt new word (slice_index (opened_slots (image_of old)) word)
  pub made : MakesAll (record_counts (image_of old)) old new

-- The old device, at rest, was opened, and the new one is what that made of it. This record rules it. The superblock is as
-- it was, except for the version, and so are the slots, except for what a sweep of more than eight gaps stores. No crash meanwhile leaves anything else
-- in a word that is left alone. The next timestamp is the dirty one of the record that ruled before, these slots are free,
-- and these are live
pub record HasOpened (old new : Device) (layout : Layout) (r : Record) (next : ℕ) (free : List Bool) (live : List LiveSlot) : Type 0 where
  pub opens : opening_fault (image_of old) ≡ None
  pub layout_is : layout ≡ opened_layout (layout_of (image_of old))
  pub record_is : r ≡ opening_record (layout_of (image_of old)) (ruling (image_of old)) (gaps_kept (opened_gaps (ruling (image_of old))))
  pub next_is : next ≡ (ruling (image_of old)).dirty
  pub free_is : free ≡ free_in (image_of old)
  pub live_is : live ≡ live_below (image_of old) (layout_of (image_of old)).slots
  pub holds : HoldsRecord layout r new
  pub left_alone : Spares (IsLeftAlone old layout r) old new
  pub superblock : (word : ℕ) → word < 8 → IsSettledAt new word (slice_index (updated (image_of old)) word)
  pub slots : (word : ℕ) → 8 + 32 * layout.places ≤ word → word < old.words → IsSettledAt new word (slice_index (opened_slots (image_of old)) word)
  pub made : MakesOpening (image_of old) old new

-- the same, and each live slot is listed with its begin
abbrev pub HasOpenedWith : Device → Device → Layout → Record → ℕ → List Bool → List OpenedSlot → Type 0
HasOpenedWith old new layout r next free slots = (live : List LiveSlot) × HasOpened old new layout r next free live × (slots ≡ map (opened_slot (image_of old)) live)

-- all of them together
abbrev pub total : Counts → ℕ
total counts = counts.stores + counts.flushes + counts.fences

-- how many opening makes
abbrev pub opening_operations : Image → ℕ
opening_operations image = total (opening_counts image)

-- an operation failed before this many were made
pub record IsCutBefore (most : ℕ) (old new : Device) : Type 0 where
  pub failed : old.failures < new.failures
  pub few : operations_of new < operations_of old + most

-- an operation of opening failed before as many were made as opening makes
abbrev pub IsCutShort : Device → Device → Type 0
IsCutShort old new = IsCutBefore (opening_operations (image_of old)) old new

-- Why opening is refused: for its own reason or for lack of memory, and then nothing was done to the device; or
-- because one of its operations failed, though the image has no fault
abbrev pub IsRefusal : Option Fault → Device → Device → Fault → Type 0
IsRefusal reason old new fault =
    (((reason ≡ Some fault) ⊎ (fault ≡ OutOfMemory)) × (new ≡ old))
    ⊎ ((reason ≡ None) × (fault ≡ DeviceFault) × IsCutShort old new)
