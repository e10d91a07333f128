use Rattle.std.proofs.Common.{arith}
use Rattle.base.proofs.Search.{first_below-found}
use Rattle.log_area.proofs.reading.first_wrong_gate.Goals as goal

pub returns-then-has_wrong_gate : goal.returns-then-has_wrong_gate
returns-then-has_wrong_gate g c = grind (arith, first_below-found)
