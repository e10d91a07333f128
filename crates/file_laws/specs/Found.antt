-- What is found of a device whose whole image is kept now and then, as in a file: an image of an earlier moment, with the gates
-- of now. What is said here of the machine alone would belong to its crate: in this one no crate below is proved again for it.
use Rattle.std.specs.Prelude.{◌≡◌, ◌⊎◌, ℕ, ◌+◌, ◌<◌, ◌≤◌, false, List, [], ◌∷◌, ◌++◌, slice_index, Some, Contains}
use Rattle.base.specs.declared.step.Step.{Step}
use Rattle.base.specs.declared.step.Reply.{Reply}
use Rattle.base.specs.Commits.{Commit}
use Rattle.base.specs.Layout.{Layout, place_start}
use Rattle.base.specs.Images.{Image, is_formatted, ruling}
use Rattle.base.specs.Stands.{Stands}
use Rattle.machine.specs.Machine.{State, Hand, Run, final, Cover, present, of_hand, covers_at, closed}
use Rattle.pmem.specs.Device.{Device, survivors_at, IsAmong, LeftAt, MightHaveLeft}
use Rattle.pmem.specs.Words.{image_of}
use Rattle.pmem.specs.declared.device.Pmem.{Ghosts}
use Rattle.room.specs.declared.room.Room.{Room}
use Rattle.room.specs.Room.{Shows, RunsTo, device_of}

-- ---- covers of a run

-- the batch that is being written has the number after that of the state's record
abbrev pub IsNumbered : State → Type 0
IsNumbered q = (hand : Hand) → q.hand ≡ Some hand → hand.target.gate ≡ q.ruling.gate + 1

-- what may rule within a step from q to q'
abbrev pub covers_within : State → State → List Cover
covers_within q q' = covers_at q ++ (of_hand q q'.hand ++ present q' ∷ [])

-- it may rule within one of the steps of a run, or before them
abbrev pub MayRule : State → List State → Cover → Type 0
MayRule q [] cover = Contains (covers_at q) cover
MayRule q (q' ∷ states) cover = Contains (covers_within q q') cover ⊎ MayRule q' states cover

-- Of all that may rule along a run, two with one gate are one: the same record, over the same commits.
-- Excluded: one number that is written twice, over other commits.
abbrev pub OneCoverAGate : Type 0
OneCoverAGate = (q : State) (steps : List Step) (replies : List Reply) (states : List State) → IsNumbered q → Run q steps replies states
    → (cover other : Cover) → MayRule q states cover → MayRule q states other → cover.ruled_by.gate ≡ other.ruled_by.gate → cover ≡ other

-- the record that closing writes last has a greater gate than all of them
abbrev pub ClosesAbove : Type 0
ClosesAbove = (q : State) (steps : List Step) (replies : List Reply) (states : List State) → IsNumbered q → Run q steps replies states
    → (cover : Cover) → MayRule q states cover → cover.ruled_by.gate < (closed (final q states)).ruled_by.gate

-- ---- what is found

-- What is found if all stopped at that moment: an image that a crash might have left at some moment from `since` on up to then. Each word of
-- its superblock and each gate is one that a crash at that very moment might have left. It stands for the same as what a crash at that very
-- moment leaves, even though its other words may be older (`found_images_stand`).
-- Excluded: a found image that stands for less than what was covered by then.
pub record IsFound (layout : Layout) (device : Device) (since moment : ℕ) (image : Image) : Type 0 where
  pub before : ℕ
  pub from : since ≤ before
  pub to : before ≤ moment
  pub left : LeftAt device before image
  pub superblock : (word : ℕ) → word < 8 → word < device.words → IsAmong (survivors_at moment (device.history word)) (slice_index image word)
  pub gates : (place : ℕ) → place < layout.places → place_start place < device.words → IsAmong (survivors_at moment (device.history (place_start place))) (slice_index image (place_start place))

-- ---- what was before

-- the cover's record rules the image, and it stands for the cover's commits, whatever was drawn then
pub record StandsFor (cover : Cover) (image : Image) : Type 0 where
  pub drawn : List Commit
  pub next : ℕ
  pub stands : Stands image cover.commits drawn next
  pub ruled : ruling image ≡ cover.ruled_by

-- it does so for one of them
abbrev pub StandsForOne : List Cover → Image → Type 0
StandsForOne covers image = (cover : Cover) × Contains covers cover × StandsFor cover image

-- the image isn't formatted, or is ruled by a record before the state's, or stands for what the state has covered
abbrev pub IsBefore : State → Image → Type 0
IsBefore q image = (is_formatted image ≡ false) ⊎ (((ruling image).gate < q.ruling.gate) ⊎ StandsForOne (covers_at q) image)

-- so is each that a crash might have left from that moment on
abbrev pub ComesFrom : Device → ℕ → State → Type 0
ComesFrom device since q = (image : Image) → MightHaveLeft device since image → IsBefore q image

-- The room showed the state, and the steps led from there. What a crash left before, from that moment on, is from before
-- the state or stands for what it has covered
pub record RunsSince {D : Type 0} {G : Ghosts D} (state : D → Device) (first last : Room D G) (since : ℕ) (steps : List Step) (replies : List Reply) (q : State) (states : List State) : Type 0 where
  pub shows : Shows state first q
  pub comes : ComesFrom (device_of state first) since q
  pub runs : RunsTo state first last steps replies q states

-- ---- from the opening of a device

-- What might have been left of the device up to its opening, since the beginning of its life, isn't formatted or is the image with which it was opened.
-- Excluded: an older image of another history, which might be found with the gates of now.
abbrev pub OpensFirst : Device → Type 0
OpensFirst opened = (image : Image) → MightHaveLeft opened 0 image → (is_formatted image ≡ false) ⊎ (image ≡ image_of opened)
