use Rattle.std.proofs.Common.{◌≡◌, map}
use Rattle.std.specs.Prelude.{take}
use Rattle.room.specs.Opening.{entry_of}
use Rattle.room.proofs.opening.entries_of.Given as goal

abbrev pub invariant-loop-kept : goal.invariant-loop-kept
invariant-loop-kept l = l.entries.items ≡ map entry_of (take l.kept-index l.kept-items)
