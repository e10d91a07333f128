use Rattle.std.proofs.Common.{◌≤◌}
use Rattle.bench.proofs.readers.read_many.Given as goal

abbrev pub invariant-loop-read : goal.invariant-loop-read
invariant-loop-read g l = l.answered ≤ l.read
