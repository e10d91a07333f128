use Rattle.std.proofs.Common.{arith}
use Rattle.version_slot.proofs.Forming.{some-slot, none-slot}
use Rattle.version_slot.proofs.reading.read.Goals as goal

pub returns-clause-some : goal.returns-clause-some
returns-clause-some g c = grind (arith, some-slot)

pub returns-clause-none : goal.returns-clause-none
returns-clause-none g c = grind (arith, none-slot)
