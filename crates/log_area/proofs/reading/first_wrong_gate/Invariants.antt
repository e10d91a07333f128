use Rattle.std.proofs.Common.{◌≡◌}
use Rattle.std.specs.Prelude.{None}
use Rattle.base.specs.Search.{first_below}
use Rattle.base.specs.Images.{is_wrong_gate}
use Rattle.pmem.specs.Words.{image_of}
use Rattle.log_area.proofs.reading.first_wrong_gate.Given as goal

abbrev pub invariant-loop-place : goal.invariant-loop-place
invariant-loop-place g l = first_below l.place (is_wrong_gate (image_of (g.D.Pmem.state l.device))) ≡ None
