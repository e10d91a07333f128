-- A store may be shared by threads.
use denote.RattleType.{RattleType}
use denote.Param.Send.{IsSend, IsSync, sendable}
use Rattle.std.proofs.Crossing.{crosses}
use Rattle.std.proofs.MapsCrossing.{crosses as maps}
use Rattle.database.proofs.database.Database.TheSendSync as database
use Rattle.history.specs.declared.origin.Origin.{Ghosts}
use Rattle.pmem_file.proofs.Sharing as storage
use Rattle.pmem_file.below.journal.specs.contracts.journaled.JournaledImages as images_type
use Rattle.pmem_file.below.journal.specs.contracts.journaled.JournaledImagesImages.TheImpl as images
use Rattle.pmem_file.specs.contracts.journaled.JournaledPmem as pmem_type
use Rattle.pmem_file.specs.contracts.storage.FileStorage as storage_type
use Rattle.pmem_file.specs.contracts.storage.FileStorageStorage.TheImpl as storage_impl
use Rattle.pmem_file.specs.contracts.storage.FileSync as sync_type
use Rattle.store.specs.contracts.store.Store.{the_row}

-- a device in a file
abbrev device_row : RattleType
device_row =
    pmem_type.the_row (images_type.the_row storage_type.the_row sync_type.the_row storage_impl.ghosts) sync_type.the_row
    (images.ghosts storage_type.the_row sync_type.the_row storage_impl.ghosts images.no_dict images.no_dict)

device_send : IsSend device_row
device_send = search (sendable, crosses, storage.storage_send) depth 60 fits 20000

pub store_sync : (R J : RattleType) (named : Ghosts J.Denot) → IsSync R → IsSync (the_row R J named)
store_sync R J named y = search (sendable, crosses, maps, database.the_field_sync, device_send) depth 60 fits 20000
