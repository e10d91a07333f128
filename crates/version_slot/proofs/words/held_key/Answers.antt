use Rattle.std.proofs.Common.{slice_index, arith}
use Rattle.version_slot.proofs.Forming.{forms, formed}
use Rattle.version_slot.proofs.words.held_key.Goals as goal

pub returns-then-not-is_well_formed-clause-none : goal.returns-then-not-is_well_formed-clause-none
returns-then-not-is_well_formed-clause-none c = λ version is.
    let well = c.is_well_formed.ensures.1 (forms c.args.geometry (slice_index c.args.words.now) version is) in
    let ill = c.if-not-is_well_formed.true in
    cc

pub returns-clause-some : goal.returns-clause-some
returns-clause-some c = formed c.args.geometry (slice_index c.args.words.now) (λ w. omega (arith, c.type_inv.words w)) (c.is_well_formed.ensures.0 (cc))
