use Rattle.std.proofs.Common.{◌≡◌, map}
use Rattle.std.specs.Prelude.{take}
use Rattle.pmem.specs.Words.{image_of}
use Rattle.recovery.specs.Live.{opened_slot}
use Rattle.recovery.proofs.rows.with_begins.Given as goal

abbrev pub invariant-loop-kept : goal.invariant-loop-kept
invariant-loop-kept g l = l.opened.items ≡ map (opened_slot (image_of (g.D.Pmem.state l.device))) (take l.kept-index l.live)
