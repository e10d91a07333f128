use Rattle.std.proofs.Common.{◌≡◌, drop}
use Rattle.session_steps.specs.Drawing.{conflict_in}
use Rattle.session_steps.proofs.draw.conflict.Given as goal

abbrev pub invariant-loop-write : goal.invariant-loop-write
invariant-loop-write l = conflict_in l.index l.snapshot l.writes ≡ conflict_in l.index l.snapshot (drop l.write-index l.write-items)
