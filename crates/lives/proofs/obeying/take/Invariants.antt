use Rattle.std.proofs.Common.{◌≡◌, ℕ, ◌+◌, ◌-◌, ◌≤◌}
use Rattle.machine.specs.Machine.{State}
use Rattle.pmem_model.specs.Sim.{device_of}
use Rattle.room.specs.Room.{Shows, device_of as device_in}
use Rattle.lives.proofs.Taken.{TakenAgain}
use Rattle.lives.proofs.obeying.take.Given as goal

abbrev pub invariant-loop : goal.invariant-loop
invariant-loop l = (count : ℕ) × (l.counter ≡ count + 1) × (count ≤ l.asked.times - 1)
    × ((q : State) → Shows device_of l.fn.room q → TakenAgain q (device_in device_of l.fn.room) l.asked.step count l.reply (device_in device_of l.room) (Shows device_of l.room))
