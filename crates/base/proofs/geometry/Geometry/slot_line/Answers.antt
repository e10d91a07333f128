use Rattle.std.proofs.Common.{arith}
use Rattle.base.proofs.Layouts.{slot_whole}
use Rattle.base.proofs.geometry.Geometry.slot_line.Goals as goal

pub returns-clause-start : goal.returns-clause-start
returns-clause-start c = omega (arith, slot_whole c.args.self.now c.args.slot, c.slot_start.ensures.value)
