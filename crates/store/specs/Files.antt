-- What a database is opened over.
use Rattle.std.specs.Prelude.{◌≡◌, ◌≢◌, ◌⊎◌, List, Option, None, Some, ⊤}
use Rattle.std.specs.declared.io.Error.{Error}
use Rattle.base.specs.declared.fault.Fault.{Fault}
use Rattle.base.specs.declared.step.Step.{Step}
use Rattle.base.specs.Images.{opening_fault}
use Rattle.base.specs.Layout.{Layout, opened_layout}
use Rattle.database.specs.Opening.{IsOpeningRefusal}
use Rattle.file_laws.specs.Lives.{StaysFound}
use Rattle.log_area.specs.Rulings.{IsLaidOut, layout_damage}
use Rattle.pmem.specs.Device.{Device}
use Rattle.pmem_file.below.journal.specs.declared.journaled.JournaledImages.{JournaledImages}
use Rattle.pmem_file.below.journal.specs.contracts.journaled.JournaledImages as images_type
use Rattle.pmem_file.below.journal.specs.contracts.journaled.JournaledImagesImages.TheImpl as images
use Rattle.pmem_file.specs.contracts.journaled.JournaledPmemPmem.TheImpl as pmem
use Rattle.pmem_file.specs.contracts.storage.FileStorage as storage_type
use Rattle.pmem_file.specs.contracts.storage.FileSync as sync_type
use Rattle.pmem_file.specs.contracts.storage.FileStorageStorage.TheImpl as storage
use Rattle.pmem_file.specs.declared.journaled.JournaledPmem.{JournaledPmem}
use Rattle.pmem_file.specs.declared.storage.FileStorage.{FileStorage}
use Rattle.pmem_file.specs.declared.storage.FileSync.{FileSync}
use Rattle.pmem_file.specs.Devices.{failure_of}
use Rattle.pmem.specs.Words.{IsAtRest, image_of}
use Rattle.recovery.specs.Fresh.{IsFormatRefusal}
use Rattle.store.specs.declared.files.Refusal.{Refusal}

-- a device whose image is kept in a file
abbrev pub FileDevice : Type 0
FileDevice =
    JournaledPmem (JournaledImages FileStorage FileSync storage.ghosts) FileSync
    (images.ghosts storage_type.the_row sync_type.the_row storage.ghosts images.no_dict images.no_dict)

-- a write or a sync of such a file failed, for this cause.
-- Excluded: a file that failed though no write or sync of one did.
abbrev pub HasLost : Error → Type 0
HasLost cause = (device : FileDevice) × (failure_of device ≡ Some cause)

-- The device is at rest, and its image has the layout that was asked for, except that version 1 is opened as version 2
pub record IsFoundWith (layout : Layout) (device : Device) : Type 0 where
  pub at_rest : IsAtRest device
  pub found : Layout
  pub laid_out : IsLaidOut found (image_of device)
  pub is_asked_for : opened_layout found ≡ opened_layout layout

-- Such a device was opened. It isn't excluded that the device is another store's.
abbrev pub OpensLayout : Layout → Type 0
OpensLayout layout = (device : Device) × IsFoundWith layout device × (opening_fault (image_of device) ≡ None)

-- such a device was opened, with the layout that it has
abbrev pub OpensExisting : Type 0
OpensExisting = (layout : Layout) × OpensLayout layout

-- the device is at rest, its image has a layout, and opening it isn't refused
abbrev pub MayOpen : Device → Type 0
MayOpen device = (layout : Layout) × IsFoundWith layout device × (opening_fault (image_of device) ≡ None)

-- a device at rest has this layout, and it isn't the one that was asked for
abbrev pub HasOtherThan : Layout → Layout → Type 0
HasOtherThan layout found = (opened_layout found ≢ opened_layout layout) × ((device : Device) × IsAtRest device × IsLaidOut found (image_of device))

-- another layout is reported only if a device has it
abbrev pub ReportsLayout : Layout → Refusal → Type 0
ReportsLayout layout (Refusal.OtherLayout found) = HasOtherThan layout found
ReportsLayout layout _ = Unit {0}

-- a device at rest has this layout, and opening a database over it is refused with this fault
abbrev pub IsRefusedWith : Layout → Fault → Type 0
IsRefusedWith layout fault = (device now : Device) × IsFoundWith layout device × IsOpeningRefusal device now fault

-- what keeps a device of this layout from being opened: opening is refused with this fault, or a file failed for this cause
abbrev pub ReportsFound : Layout → Refusal → Type 0
ReportsFound layout (Refusal.Fault fault) = IsRefusedWith layout fault
ReportsFound layout (Refusal.Lost cause) = HasLost cause
ReportsFound layout _ = ⊥

-- Why a device at rest isn't opened: formatting it with this layout was refused with this fault, or its superblock has this fault. Or it has the
-- layout that was asked for, and opening a database over it is refused with this fault
abbrev pub IsUnopened : Layout → Fault → Type 0
IsUnopened layout fault =
    ((device now : Device) × IsAtRest device × IsFormatRefusal layout device now fault)
    ⊎ (((device : Device) × IsAtRest device × (layout_damage (image_of device) ≡ Some fault))
    ⊎ IsRefusedWith layout fault)

-- a fault is reported only if it is the reason, and a failure of a file only if one failed for this cause
abbrev pub ReportsFault : Layout → Refusal → Type 0
ReportsFault layout (Refusal.Fault fault) = IsUnopened layout fault
ReportsFault layout (Refusal.Lost cause) = HasLost cause
ReportsFault layout _ = Unit {0}

-- ---- what the file has later

-- If the history is kept: whatever stops the store from now on, within any step, write or sync, and whatever stops each life after it, each image
-- that may be found in the file is what lives of the machine leave, and has all that this history has covered (`StaysFound`).
-- Excluded: a file that lacks an acknowledged commit, or a part of one, at some later opening; one to which a commit returns that an earlier
-- stop left out.
abbrev pub StaysInFile : Device → Option (List Step) → Type 0
StaysInFile opened (Some log) =
    let kept = images.ghosts storage_type.the_row sync_type.the_row storage.ghosts images.no_dict images.no_dict in
    StaysFound kept (pmem.ghosts (images_type.the_row storage_type.the_row sync_type.the_row storage.ghosts) sync_type.the_row kept images.no_dict images.no_dict) opened log
StaysInFile opened None = ⊤
