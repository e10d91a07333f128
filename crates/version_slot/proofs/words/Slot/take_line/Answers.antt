use Rattle.std.proofs.Common.{slice_index, arith}
use Rattle.base.proofs.Layouts.{used-words}
use Rattle.version_slot.specs.Words.{length_in}
use Rattle.version_slot.proofs.Forming.{forms}
use Rattle.version_slot.proofs.words.Slot.take_line.Goals as goal

pub returns-then-not-is_well_formed-clause-none : goal.returns-then-not-is_well_formed-clause-none
returns-then-not-is_well_formed-clause-none c = λ ill slot is.
    let well = c.is_well_formed.ensures.1 (forms c.args.geometry (slice_index c.args.words.now) slot.version is.version) in
    let none = c.if-not-is_well_formed.true in
    cc

pub take-requires-clause-many : goal.take-requires-clause-many
take-requires-clause-many c =
    omega (arith, (used-words c.args.geometry.version (length_in (slice_index c.args.words.now))).1, c.requires, c.line_bytes.ensures.size)
