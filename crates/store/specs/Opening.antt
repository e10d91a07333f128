-- What is reported when a store is opened or closed.
use Rattle.std.specs.Prelude.{◌≡◌, ◌≢◌, ◌⊎◌, ℕ, List, Option, Some, None}
use Rattle.std.specs.declared.io.Error.{Error}
use Rattle.std.specs.String.{string_bytes}
use Rattle.base.specs.declared.fault.Fault.{Fault}
use Rattle.base.specs.declared.fault.Fault.TheVariants.{Damaged}
use Rattle.base.specs.Images.{opening_fault}
use Rattle.base.specs.Layout.{Layout}
use Rattle.pmem.specs.Device.{Device}
use Rattle.pmem.specs.Words.{image_of}
use Rattle.database.specs.Closing.{ClosesRun, IsClosed, IsClosingRefused}
use Rattle.pmem_file.specs.Devices.{failure_of, state_of}
use Rattle.store.specs.Files.{FileDevice, HasLost, HasOtherThan, IsFoundWith, IsRefusedWith, IsUnopened}
use Rattle.store.specs.declared.error.StoreError.{StoreError}
use Rattle.store.specs.Errors.{part_of}

-- a device has the layout that was asked for, and this number is the first damage that its opening reports
abbrev pub IsDamagedAt : Layout → ℕ → Type 0
IsDamagedAt layout number = (device : Device) × IsFoundWith layout device × (opening_fault (image_of device) ≡ Some (Damaged number))

-- The error names this file. It has the layout that was asked for, if a device has another one, the part that is damaged, or the other
-- reason why a device isn't opened.
-- Excluded: the error of another call; another file's name; a layout that no device has; damage that opening doesn't report.
abbrev pub IsOpeningError : List ℕ → Layout → StoreError → Type 0
IsOpeningError file layout (StoreError.File name cause) = string_bytes name ≡ file
IsOpeningError file layout (StoreError.OtherLayout name found asked) = (string_bytes name ≡ file) × (asked.geometry ≡ layout) × HasOtherThan layout found.geometry
IsOpeningError file layout (StoreError.Damaged name part) = (string_bytes name ≡ file) × ((number : ℕ) × (part ≡ part_of layout number) × IsDamagedAt layout number)
IsOpeningError file layout (StoreError.NotOpened name fault) = (string_bytes name ≡ file) × IsUnopened layout fault × ((number : ℕ) → fault ≢ Damaged number)
IsOpeningError file layout (StoreError.Lost name cause) = (string_bytes name ≡ file) × HasLost cause
IsOpeningError file layout StoreError.OutOfMemory = Unit {0}
IsOpeningError file layout _ = ⊥

-- The error names this file. The damaged part is counted in the layout that a device has, and the other reasons are about such a device too
abbrev pub IsFindingError : List ℕ → StoreError → Type 0
IsFindingError file (StoreError.Missing name) = string_bytes name ≡ file
IsFindingError file (StoreError.File name cause) = string_bytes name ≡ file
IsFindingError file (StoreError.Damaged name part) = (string_bytes name ≡ file) × ((layout : Layout) × (number : ℕ) × (part ≡ part_of layout number) × IsDamagedAt layout number)
IsFindingError file (StoreError.NotOpened name fault) = (string_bytes name ≡ file) × ((layout : Layout) × IsRefusedWith layout fault) × ((number : ℕ) → fault ≢ Damaged number)
IsFindingError file (StoreError.Lost name cause) = (string_bytes name ≡ file) × HasLost cause
IsFindingError file StoreError.OutOfMemory = Unit {0}
IsFindingError file _ = ⊥

-- all that was covered and drawn since a device was opened is covered on it
abbrev pub IsCovered : Type 0
IsCovered = (device : Device) × ∥ ClosesRun device (IsClosed device) ∥₁

-- closing a device that was opened is refused with this fault, and its file has this failure, if it has failed
abbrev pub IsUnclosed : Option Error → Fault → Type 0
IsUnclosed failure fault = (device : FileDevice) × (failure_of device ≡ failure) × ∥ ClosesRun (state_of device) (IsClosingRefused (state_of device) fault) ∥₁

-- The error names this file. A write or a sync of it failed for the cause, and closing its device is refused; or all is covered, and closing the
-- file failed. Or no write or sync failed, and this is why closing its device is refused
abbrev pub IsClosingError : List ℕ → StoreError → Type 0
IsClosingError file (StoreError.Lost name cause) = (string_bytes name ≡ file) × (IsCovered ⊎ ((fault : Fault) × IsUnclosed (Some cause) fault))
IsClosingError file (StoreError.NotClosed name fault) = (string_bytes name ≡ file) × IsUnclosed None fault
IsClosingError file _ = ⊥
