use Rattle.std.proofs.Common.{◌≡◌, ◌+◌, ◌<◌, ◌≤◌, ℕ, length, slice_index}
use Rattle.pmem.specs.Words.{value_of}
use Rattle.version_slot.proofs.reading.line_from.Given as goal

abbrev pub invariant-loop-w : goal.invariant-loop-w
invariant-loop-w g l = record {
  size : length l.words ≡ 8;
  loaded : (w : ℕ) → l.first ≤ w → w < l.w → slice_index l.words w ≡ value_of (g.D.Pmem.state l.device) (l.start + w);
}
