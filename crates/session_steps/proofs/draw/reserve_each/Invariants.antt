use Rattle.std.proofs.Common.{◌≡◌, true, take}
use Rattle.std.specs.Prelude.{All}
use Rattle.base.specs.declared.key.Key.{Key}
use Rattle.index.specs.Entries.{entry_at, has_room}
use Rattle.session_steps.proofs.draw.reserve_each.Given as goal

abbrev pub invariant-loop-write : goal.invariant-loop-write
invariant-loop-write l = record {
  entries : (key : Key) → entry_at l.index key ≡ entry_at l.fn.index key;
  kept : (key : Key) → has_room l.fn.index key ≡ true → has_room l.index key ≡ true;
  room : All (λ write. has_room l.index write.key ≡ true) (take l.write-index l.write-items);
}
