use Rattle.std.proofs.Common.{false, arith}
use Rattle.std.proofs.lemmas.List.{ext_get_or}
use Rattle.slot_alloc.proofs.free.SlotAlloc.new.Goals as goal

pub returns : goal.returns
returns c = ext_get_or false c.loop-slot.slots c.args.free.now c.loop-slot.invariant.size (λ k lt. c.loop-slot.invariant.below k (omega (arith, lt, c.loop-slot.invariant.size, c.loop-slot-test.false)))
