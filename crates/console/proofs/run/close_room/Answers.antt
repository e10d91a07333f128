use Rattle.pmem_model.specs.Sim.{device_of}
use Rattle.room.specs.Room.{device_of as device_in}
use Rattle.console.proofs.Refusals.{closing-fault}
use Rattle.console.proofs.run.close_room.Goals as goal

pub returns-in-Err-clause-fault : goal.returns-in-Err-clause-fault
returns-in-Err-clause-fault c =
    closing-fault device_of c.args.room (device_in device_of c.args.room) (device_of c.in-Err._device) c.in-Err.fault c.without_fuse.result c.without_fuse.ensures.device c.without_fuse.ensures.other c.in-Err.ensures.fault
