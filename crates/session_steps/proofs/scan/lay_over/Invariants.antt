use Rattle.std.specs.Prelude.{◌≤◌, ◌+◌, length}
use Rattle.base.specs.Commits.{Tables}
use Rattle.index.specs.Reading.{HasRows, ranged}
use Rattle.session_steps.proofs.reads.Scans.{laid}
use Rattle.session_steps.proofs.scan.lay_over.Given as goal

abbrev pub invariant-loop-write : goal.invariant-loop-write
invariant-loop-write l = record {
  rows : (tables : Tables) → HasRows l.initial.rows (ranged l.range tables) → HasRows l.rows (ranged l.range (laid l.write-index l.writes tables));
  count : length l.initial.rows.entries ≤ length l.rows.entries + l.write-index;
  bound : l.write-index ≤ length l.writes;
}
