use Rattle.std.proofs.Common.{◌≡◌, ℕ, ◌+◌, ◌<◌, get_or}
use Rattle.pmem.specs.Words.{image_of}
use Rattle.recovery.specs.declared.slots.SlotContent.{SlotContent}
use Rattle.recovery.specs.Slots.{found_in}
use Rattle.recovery.proofs.slots.read_chunk.Given as goal

abbrev pub invariant-loop-place : goal.invariant-loop-place
invariant-loop-place g l = (k : ℕ) (d : SlotContent) → k < l.place → get_or l.readings k d ≡ found_in (image_of (g.D.Pmem.state l.device)) (l.first + k)
