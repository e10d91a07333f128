use Rattle.std.proofs.Common.{take}
use Rattle.machine.specs.Machine.{State}
use Rattle.pmem_model.specs.Sim.{device_of}
use Rattle.room.specs.Room.{Shows, device_of as device_in}
use Rattle.lives.proofs.Taken.{ReportedSoFar}
use Rattle.lives.proofs.obeying.obey.Given as goal

abbrev pub invariant-loop-asked : goal.invariant-loop-asked
invariant-loop-asked l = (q : State) → Shows device_of l.fn.room q
    → ReportedSoFar q (device_in device_of l.fn.room) (take l.asked-index l.steps) l.replies.items (device_in device_of l.room) (Shows device_of l.room)
