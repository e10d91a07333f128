use Rattle.std.proofs.Common.{arith}
use Rattle.recovery.proofs.slots.read_into.Goals as goal

pub returns-clause-each : goal.returns-clause-each
returns-clause-each g c = grind (arith)
