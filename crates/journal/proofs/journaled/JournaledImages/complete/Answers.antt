use Rattle.std.proofs.Common.{length, arith}
use Rattle.journal.proofs.Within.{rests_within}
use Rattle.journal.proofs.Decides.{decides_within}
use Rattle.journal.proofs.Placings.{placed-within}
use Rattle.journal.proofs.journaled.JournaledImages.complete.Goals as goal

pub invariant_of-self-clause-rests : goal.invariant_of-self-clause-rests
invariant_of-self-clause-rests g c works done = grind (arith, rests_within)

pub invariant_of-self-clause-decides : goal.invariant_of-self-clause-decides
invariant_of-self-clause-decides g c =
    let self = c.args.self.now in
    decides_within (g.S.Storage.may_hold self.storage) (g.S.Storage.may_hold c.sync.new.self) (length self.written.value.items) self.room c.sync.ensures.found self.decides

pub invariant_of-self-in-Err-clause-decides : goal.invariant_of-self-in-Err-clause-decides
invariant_of-self-in-Err-clause-decides g c =
    let self = c.args.self.now in
    decides_within (g.S.Storage.may_hold self.storage) (g.S.Storage.may_hold c.sync.new.self) (length self.written.value.items) self.room c.sync.ensures.found self.decides

pub invariant_of-self-clause-placed : goal.invariant_of-self-clause-placed
invariant_of-self-clause-placed g c works =
    let self = c.args.self.now in
    placed-within (g.S.Storage.may_hold self.storage) (g.S.Storage.may_hold c.sync.new.self) self.unplaced.lines.items self.unplaced.marks.items self.written.value.items c.sync.ensures.found (self.placed works)
