use Rattle.std.proofs.Common.{◌≡◌, ◌*◌, ◌<◌, ℕ, length, slice_index}
use Rattle.version_slot.specs.Words.{slot_byte}
use Rattle.version_slot.proofs.bytes.row_bytes.Given as goal

abbrev pub invariant-loop-k : goal.invariant-loop-k
invariant-loop-k l = record {
  size : length l.bytes ≡ 480;
  copied : (i : ℕ) → i < 8 * l.k → slice_index l.bytes i ≡ slot_byte (slice_index l.words) i;
}
