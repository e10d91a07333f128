use Rattle.std.proofs.Common.{arith}
use Rattle.base.specs.Layout.{Layout}
use Rattle.base.proofs.Layouts.{line-words, slot_within}
use Rattle.base.proofs.geometry.Geometry.slot_start.Goals as goal

pub returns-clause-line : goal.returns-clause-line
returns-clause-line c =
    let a : Layout = c.args.self.now in
    grind (arith, slot_within a c.args.slot c.requires, line-words a.version, c.slot_words.ensures.value, c.self.view_is)
