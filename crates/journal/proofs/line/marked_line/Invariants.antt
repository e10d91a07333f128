use Rattle.std.proofs.Common.{◌≡◌, map, take, length}
use Rattle.journal.specs.Entries.{marks}
use Rattle.journal.specs.LinePayloads.{low}
use Rattle.journal.proofs.line.marked_line.Given as goal

abbrev pub invariant-loop-place : goal.invariant-loop-place
invariant-loop-place l = record {
  size : length l.words ≡ 9;
  is : take l.place l.words ≡ marks l.fn.pass (map low (take l.place l.fn.line.words));
}
