use Rattle.slot_alloc.proofs.Built.{IsBuilt}
use Rattle.slot_alloc.proofs.free.SlotAlloc.new.Given as goal

abbrev pub invariant-loop-slot : goal.invariant-loop-slot
invariant-loop-slot l = IsBuilt l.free l.slot l.slots
