use Rattle.std.proofs.Common.{◌≡◌, true, take, drop}
use Rattle.std.specs.Prelude.{All}
use Rattle.index.specs.Entries.{has_room}
use Rattle.session_steps.specs.Drawing.{conflict_in}
use Rattle.session_steps.proofs.draw.ask.Given as goal

abbrev pub invariant-loop-write : goal.invariant-loop-write
invariant-loop-write l = record {
  conflict : conflict_in l.index l.snapshot l.writes ≡ conflict_in l.index l.snapshot (drop l.write-index l.write-items);
  room : All (λ write. has_room l.index write.key ≡ true) (take l.write-index l.write-items);
}
