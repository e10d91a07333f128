use Rattle.std.proofs.Common.{arith}
use Rattle.base.proofs.Layouts.{line-words}
use Rattle.version_slot.proofs.words.is_well_formed.Goals as goal

pub bounds-words-3 : goal.bounds-words-3
bounds-words-3 c = omega (arith, line-words c.args.geometry.version, c.requires)
