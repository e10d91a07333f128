use Rattle.std.proofs.Common.{◌≡◌, ◌≤◌, ◌++◌, length, drop}
use Rattle.base.specs.Records.{with_gap}
use Rattle.gap_list.proofs.parts.split.Given as goal

abbrev pub invariant-loop-index : goal.invariant-loop-index
invariant-loop-index l = record {
  whole : with_gap l.fn.range l.gaps ≡ l.before ++ with_gap l.joined (drop l.index l.gaps);
  few : length l.before ≤ l.index;
}
