use Rattle.std.specs.Prelude.{take}
use Rattle.session_steps.specs.Giving.{ReleasesSlots}
use Rattle.session_steps.proofs.giving.release.Given as goal

abbrev pub invariant-loop-write : goal.invariant-loop-write
invariant-loop-write l = ReleasesSlots (take l.write-index l.write-items) l.initial.slots l.slots
