use Rattle.std.proofs.Common.{slice_index, arith}
use Rattle.base.proofs.Layouts.{few-words}
use Rattle.version_slot.proofs.Forming.{forms}
use Rattle.version_slot.proofs.words.Slot.take_words.Goals as goal

pub is_well_formed-requires : goal.is_well_formed-requires
is_well_formed-requires c = omega (arith, few-words c.args.geometry.version, c.told-words)

pub returns-then-not-is_well_formed-clause-none : goal.returns-then-not-is_well_formed-clause-none
returns-then-not-is_well_formed-clause-none c = λ ill slot is.
    let well = c.is_well_formed.ensures.1 (forms c.args.geometry (slice_index c.args.words.now) slot.version is.version) in
    let none = c.if-not-is_well_formed.true in
    cc
