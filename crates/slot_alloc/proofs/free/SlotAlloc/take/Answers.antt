use Rattle.std.proofs.Common.{Bool, List, length, sym, ap, arith}
use Rattle.pmem.proofs.Traces.{words-stopped}
use Rattle.slot_alloc.specs.Free.{is_free}
use Rattle.slot_alloc.proofs.Lowest.{lowest_below}
use Rattle.slot_alloc.proofs.free.SlotAlloc.take.Goals as goal

pub clear-requires-clause-slot : goal.clear-requires-clause-slot
clear-requires-clause-slot g c = omega (arith, lowest_below (length c.args.self.now) c.in-Some.slot (is_free c.args.self.now) (sym c.in-Some.ensures), c.requires.slots)

pub returns-in-Err-clause-size : goal.returns-in-Err-clause-size
returns-in-Err-clause-size g c = words-stopped _ c.in-Err.ensures.err

pub remove-requires : goal.remove-requires
remove-requires g c =
    omega (arith, lowest_below (length c.args.self.now) c.in-Some.slot (is_free c.args.self.now) (sym c.in-Some.ensures), ap (λ (l : List Bool). length l) c.self.view_is)
