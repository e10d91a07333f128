use Rattle.pmem_file.specs.Devices.{last_image}
use Rattle.pmem_file.specs.Files.{held_in}
use Rattle.pmem_file.proofs.Closed.{left-closed}
use Rattle.pmem_file.proofs.file_device.JournaledPmem+JournaledImages+FileStorage.close.Goals as goal

pub returns-in-Ok-clause-left : goal.returns-in-Ok-clause-left
returns-in-Ok-clause-left c =
    left-closed c.close.result (held_in c.in-Ok.storage) _ _ (last_image c.args.self) c.in-Ok.ensures.closed c.size-words.ensures c.close.ensures.found
