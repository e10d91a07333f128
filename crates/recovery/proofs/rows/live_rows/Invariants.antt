use Rattle.std.proofs.Common.{◌≡◌, map}
use Rattle.std.specs.Prelude.{take}
use Rattle.pmem.specs.Words.{image_of}
use Rattle.recovery.proofs.reads.HeldSlots.{row-in}
use Rattle.recovery.proofs.rows.live_rows.Given as goal

abbrev pub invariant-loop-kept : goal.invariant-loop-kept
invariant-loop-kept g l = l.rows.items ≡ map (row-in (image_of (g.D.Pmem.state l.device))) (take l.kept-index l.live)
