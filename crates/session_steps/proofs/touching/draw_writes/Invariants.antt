use Rattle.std.proofs.Common.{◌≡◌, take}
use Rattle.std.specs.List.{flat_map}
use Rattle.base.specs.declared.key.Key.{Key}
use Rattle.dirty_table.specs.Touches.{Touches}
use Rattle.index.specs.Entries.{entry_at, KeepsRoom}
use Rattle.txn.specs.WriteSets.{write_of}
use Rattle.session_steps.specs.Drawing.{touched_lines, drawn_entry}
use Rattle.session_steps.proofs.touching.draw_writes.Given as goal

abbrev pub invariant-loop-write : goal.invariant-loop-write
invariant-loop-write l = record {
  lines : Touches l.session (flat_map (touched_lines l.geometry l.fn.index) (take l.write-index l.write-items)) l.fn.dirty l.dirty;
  entries : (key : Key) → entry_at l.index key ≡ drawn_entry (write_of key (take l.write-index l.write-items)) l.timestamp (entry_at l.fn.index key);
  rooms : KeepsRoom l.fn.index l.index;
}
