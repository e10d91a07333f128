-- What a caller may say of a device whose image is kept elsewhere.
use Rattle.std.specs.Prelude.{◌≡◌, ℕ, Bool, true, List, [], Option, None}
use Rattle.std.specs.declared.io.Error.{Error}
use Rattle.journal.specs.Images as journal
use Rattle.journal.specs.declared.images.Images.{Ghosts}
use Rattle.journal.specs.declared.journaled.JournaledImages.{JournaledImages}
use Rattle.journal.specs.declared.storage.Storage.{Ghosts as StorageGhosts}
use Rattle.pmem.specs.Device.{Device}
use Rattle.pmem_file.specs.Traces.{device_of}
use Rattle.pmem_file.specs.declared.journaled.JournaledPmem.{JournaledPmem}

-- all that was done to it
abbrev pub state_of : {I P : Type 0} → {H : Ghosts I P} → JournaledPmem I P H → Device
state_of device = device_of device.trace

-- the moment of the last image that was kept
abbrev pub kept_at : {I P : Type 0} → {H : Ghosts I P} → JournaledPmem I P H → ℕ
kept_at device = (device_of device.kept.value).clock

-- the images that it keeps
abbrev pub images_of : {I P : Type 0} → {H : Ghosts I P} → JournaledPmem I P H → I
images_of device = device.images

-- an image wasn't kept, and why is noted there
abbrev pub HasFailed : {I P : Type 0} → {H : Ghosts I P} → (I → Bool) → JournaledPmem I P H → Type 0
HasFailed has_failed device = has_failed device.images ≡ true

-- how many places for records it has
abbrev pub places_of : {I P : Type 0} → {H : Ghosts I P} → JournaledPmem I P H → ℕ
places_of device = device.places

-- the image may be found, once all has stopped
abbrev pub MayFind : {I P : Type 0} → {H : Ghosts I P} → (I → List ℕ → Type 0) → JournaledPmem I P H → List ℕ → Type 0
MayFind may_hold device image = may_hold device.images image

-- the lines that are marked as stored to since an image was written
abbrev pub changed_in : {I P : Type 0} → {H : Ghosts I P} → JournaledPmem I P H → List ℕ
changed_in device = device.changed.lines

-- ---- one whose images are kept in a file

-- why an image wasn't kept, if one wasn't
abbrev pub failure_of : {S P Q : Type 0} → {G : StorageGhosts S P} → {H : Ghosts (JournaledImages S P G) Q} → JournaledPmem (JournaledImages S P G) Q H → Option Error
failure_of device = journal.failure_of device.images

-- All that is stored was written: no image failed to be kept, and no line is marked as stored to since the last one was written.
-- Excluded: an image that lacks a store, taken for what the device holds.
abbrev pub IsWritten : {S P Q : Type 0} → {G : StorageGhosts S P} → {H : Ghosts (JournaledImages S P G) Q} → JournaledPmem (JournaledImages S P G) Q H → Type 0
IsWritten device = (failure_of device ≡ None) × (changed_in device ≡ [])

-- the image that was written last
abbrev pub last_image : {S P Q : Type 0} → {G : StorageGhosts S P} → {H : Ghosts (JournaledImages S P G) Q} → JournaledPmem (JournaledImages S P G) Q H → List ℕ
last_image device = journal.last_image device.images

-- how many words its journal has
abbrev pub room_in : {S P Q : Type 0} → {G : StorageGhosts S P} → {H : Ghosts (JournaledImages S P G) Q} → JournaledPmem (JournaledImages S P G) Q H → ℕ
room_in device = journal.room_of device.images

-- the image may be found, once all has stopped, if this is what is found of the words
abbrev pub MayFindIn : {S P Q : Type 0} → {G : StorageGhosts S P} → {H : Ghosts (JournaledImages S P G) Q} → (S → ℕ → ℕ → Type 0) → JournaledPmem (JournaledImages S P G) Q H → List ℕ → Type 0
MayFindIn may_hold device image = journal.MayFind may_hold device.images image

-- the storage that they are kept in
abbrev pub storage_of : {S P Q : Type 0} → {G : StorageGhosts S P} → {H : Ghosts (JournaledImages S P G) Q} → JournaledPmem (JournaledImages S P G) Q H → S
storage_of device = journal.storage_of device.images

-- the first words of this storage are the image that was written last, and the journal behind them doesn't count
abbrev pub IsClosedIn : {S P Q : Type 0} → {G : StorageGhosts S P} → {H : Ghosts (JournaledImages S P G) Q} → (S → ℕ → ℕ → Type 0) → JournaledPmem (JournaledImages S P G) Q H → S → Type 0
IsClosedIn may_hold device storage = journal.IsClosedIn may_hold device.images storage

-- whatever is found in this storage stands for an image that might have been found before
abbrev pub StandsForOne : {S P Q : Type 0} → {G : StorageGhosts S P} → {H : Ghosts (JournaledImages S P G) Q} → (S → ℕ → ℕ → Type 0) → JournaledPmem (JournaledImages S P G) Q H → S → Type 0
StandsForOne may_hold device storage = journal.StandsForOne may_hold device.images storage
