-- Words in memory may go from thread to thread, and threads may share them.
use denote.Param.Send.{IsSend, IsSync, sendable}
use Rattle.std.proofs.Crossing.{crosses}
use Rattle.pmem_file.specs.contracts.memory_storage.MemoryStorage.{the_row}

pub storage_send : IsSend the_row
storage_send = search (sendable, crosses) depth 60 fits 20000

pub storage_sync : IsSync the_row
storage_sync = search (sendable, crosses) depth 60 fits 20000
