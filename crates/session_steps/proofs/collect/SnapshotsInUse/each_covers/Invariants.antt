use Rattle.std.specs.Prelude.{◌≤◌, ◌-◌}
use Rattle.session_steps.proofs.collector.Readers.{CoverBelow}
use Rattle.session_steps.proofs.collect.SnapshotsInUse.each_covers.Given as goal

abbrev pub invariant-loop-number : goal.invariant-loop-number
invariant-loop-number l = (l.from ≤ 64) × CoverBelow l.self.transactions.now l.ts l.from

abbrev pub decreases-loop-number : goal.decreases-loop-number
decreases-loop-number l = 64 - l.from
