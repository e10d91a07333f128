use Rattle.std.proofs.Common.{length, arith}
use Rattle.journal.proofs.Within.{may_be_within, rests_within}
use Rattle.journal.proofs.Decides.{decides_within}
use Rattle.journal.proofs.Placings.{placed-within}
use Rattle.journal.proofs.journaled.JournaledImagesImages.hand_out.Goals as goal

pub invariant_of-self-clause-rests : goal.invariant_of-self-clause-rests
invariant_of-self-clause-rests g c works done = grind (arith, rests_within)

pub invariant_of-self-clause-begun : goal.invariant_of-self-clause-begun
invariant_of-self-clause-begun g c works begun = grind (arith, rests_within)

pub returns-clause-found : goal.returns-clause-found
returns-clause-found g c image may = grind (arith, may_be_within (g.S.Storage.may_hold c.args.self.now.storage) (g.S.Storage.may_hold c.hand_out.new.self) c.args.self.now.room c.args.self.now.written.value.items image c.hand_out.ensures.found may)

pub invariant_of-self-clause-decides : goal.invariant_of-self-clause-decides
invariant_of-self-clause-decides g c =
    let self = c.args.self.now in
    decides_within (g.S.Storage.may_hold self.storage) (g.S.Storage.may_hold c.hand_out.new.self) (length self.written.value.items) self.room c.hand_out.ensures.found self.decides

pub invariant_of-self-clause-placed : goal.invariant_of-self-clause-placed
invariant_of-self-clause-placed g c works =
    let self = c.args.self.now in
    placed-within (g.S.Storage.may_hold self.storage) (g.S.Storage.may_hold c.hand_out.new.self) self.unplaced.lines.items self.unplaced.marks.items self.written.value.items c.hand_out.ensures.found (self.placed works)
