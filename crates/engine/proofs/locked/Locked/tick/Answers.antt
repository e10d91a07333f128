use Rattle.std.proofs.Common.{refl}
use Rattle.engine.proofs.Halting.{halted-after, kept-after, kept-stepped}
use Rattle.engine.proofs.Covering.{covered-by}
use Rattle.engine.proofs.Rising.{some_is}
use Rattle.engine.proofs.Staying.{from-stepped}
use Rattle.engine.proofs.locked.Locked.tick.Goals as goal

pub invariant_of-self-in-Some-receipt : goal.invariant_of-self-in-Some-receipt
invariant_of-self-in-Some-receipt g c =
    let from = from-stepped g.D.Pmem.state g.J.Origin.image c.args.self.now.audited c.in-Some.audited c.step-reply.new.self c.args.self.now.from c.in-Some.is c.step-reply.ensures.audited in
    let r = c.in-Some-receipt.receipt in
    let keeps = some_is _ _ r c.step-reply.ensures.kept c.in-Some-receipt.is in
    record {
      from = from;
      ended = halted-after g.D.Pmem.state g.J.Origin.image c.step-reply.new.self c.in-Some.audited.entries.items c.args.step.now c.step-reply.result.0 r c.halting.result c.args.self.now.halted c.newer-halted.result
          (from c.step-reply.new.self refl) keeps c.halting.ensures.some c.args.self.now.ended c.newer-halted.ensures;
      kept = kept-after c.args.self.now.audited c.in-Some.audited c.step-reply.new.self c.args.step.now c.step-reply.result.0 r c.halting.result c.args.self.now.halted c.newer-halted.result
          c.args.self.now.kept c.in-Some.is keeps c.halting.ensures.some c.newer-halted.ensures;
    }

pub invariant_of-self-in-None : goal.invariant_of-self-in-None
invariant_of-self-in-None g c = record {
  from = from-stepped g.D.Pmem.state g.J.Origin.image c.args.self.now.audited c.in-Some.audited c.step-reply.new.self c.args.self.now.from c.in-Some.is c.step-reply.ensures.audited;
  ended = c.args.self.now.ended;
  kept = kept-stepped c.args.self.now.audited c.in-Some.audited c.step-reply.new.self c.args.step.now c.step-reply.result.0 c.step-reply.result.1 c.args.self.now.halted _ c.args.self.now.kept c.in-Some.is
      c.step-reply.ensures.kept c.step-reply.ensures.refused;
}

pub returns-in-Some-receipt-clause-covered : goal.returns-in-Some-receipt-clause-covered
returns-in-Some-receipt-clause-covered g c =
    covered-by g.D.Pmem.state g.J.Origin.image c.args.self.now.audited c.in-Some.audited c.step-reply.new.self c.args.step.now c.step-reply.result.0 c.args.self.now.from c.in-Some.is
    (some_is _ _ c.in-Some-receipt.receipt c.step-reply.ensures.step c.in-Some-receipt.is)
