use Rattle.std.proofs.Common.{◌≡◌, max, fold, map}
use Rattle.std.specs.List.{range_with_len}
use Rattle.base.specs.Images.{gate_at}
use Rattle.pmem.specs.Words.{image_of}
use Rattle.log_area.proofs.reading.greatest_gate.Given as goal

abbrev pub invariant-loop-place : goal.invariant-loop-place
invariant-loop-place g l = l.greatest ≡ fold max 0 (map (gate_at (image_of (g.D.Pmem.state l.device))) (range_with_len 0 l.place))
