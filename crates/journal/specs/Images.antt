-- What a caller may say of images that are kept in a file.
use Rattle.std.specs.Prelude.{◌≡◌, ℕ, true, List, Option, length}
use Rattle.std.specs.declared.io.Error.{Error}
use Rattle.journal.specs.Files.{MayBe, StandsAmong}
use Rattle.journal.specs.States.{IsOff}
use Rattle.journal.specs.declared.journaled.JournaledImages.{JournaledImages}
use Rattle.journal.specs.declared.storage.Storage.{Ghosts}

-- the image that was written last
abbrev pub last_image : {S P : Type 0} → {H : Ghosts S P} → JournaledImages S P H → List ℕ
last_image images = images.written.value.items

-- how many words the journal has
abbrev pub room_of : {S P : Type 0} → {H : Ghosts S P} → JournaledImages S P H → ℕ
room_of images = images.room

-- the storage that they are kept in
abbrev pub storage_of : {S P : Type 0} → {H : Ghosts S P} → JournaledImages S P H → S
storage_of images = images.storage

-- why an image wasn't kept, if one wasn't
abbrev pub failure_of : {S P : Type 0} → {H : Ghosts S P} → JournaledImages S P H → Option Error
failure_of images = images.failure

-- the image may be found, once all has stopped
abbrev pub MayFind : {S P : Type 0} → {H : Ghosts S P} → (S → ℕ → ℕ → Type 0) → JournaledImages S P H → List ℕ → Type 0
MayFind may_hold images image = MayBe (may_hold images.storage) images.room images.written.value.items image

-- the first words of this storage are the image that was written last, and the journal behind them doesn't count
abbrev pub IsClosedIn : {S P : Type 0} → {H : Ghosts S P} → (S → ℕ → ℕ → Type 0) → JournaledImages S P H → S → Type 0
IsClosedIn may_hold images storage = IsOff (may_hold storage) (length images.written.value.items) images.room images.written.value.items

-- whatever is found in this storage stands for an image that might have been found before
abbrev pub StandsForOne : {S P : Type 0} → {H : Ghosts S P} → (S → ℕ → ℕ → Type 0) → JournaledImages S P H → S → Type 0
StandsForOne may_hold images storage = StandsAmong (may_hold images.storage) (may_hold storage) images.room images.written.value.items

-- an image is begun, and its storage refuses each write and each sync
abbrev pub Refuses : {S P : Type 0} → {H : Ghosts S P} → (S → Type 0) → JournaledImages S P H → Type 0
Refuses refuses images = refuses images.storage × (images.is_begun ≡ true)
