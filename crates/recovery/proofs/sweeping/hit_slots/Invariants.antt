use Rattle.std.proofs.Common.{◌≡◌}
use Rattle.pmem.specs.Words.{image_of}
use Rattle.recovery.specs.Sweeping.{hits_below}
use Rattle.recovery.proofs.sweeping.hit_slots.Given as goal

abbrev pub invariant-loop-slot : goal.invariant-loop-slot
invariant-loop-slot g l = l.hits.items ≡ hits_below (image_of (g.D.Pmem.state l.device)) l.slot
