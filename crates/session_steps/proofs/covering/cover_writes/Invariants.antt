use Rattle.std.specs.Prelude.{take}
use Rattle.session_steps.specs.Covering.{CoversWrites, MarksReplaced}
use Rattle.session_steps.proofs.covering.cover_writes.Given as goal

abbrev pub invariant-loop-write : goal.invariant-loop-write
invariant-loop-write l = record {
  covers : CoversWrites (take l.write-index l.write-items) l.initial.index l.index;
  marks : MarksReplaced l.initial.replaced l.replaced l.initial.index l.index;
}
