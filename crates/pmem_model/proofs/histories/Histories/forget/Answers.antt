use Rattle.std.proofs.Common.{arith}
use Rattle.pmem_model.specs.Past.{history_of}
use Rattle.pmem_model.proofs.Sound.{sound-cleared}
use Rattle.pmem_model.proofs.histories.Histories.forget.Goals as goal

pub invariant_of-self : goal.invariant_of-self
invariant_of-self c = grind (arith, sound-cleared (history_of c.args.self.now.past) c.args.self.now.values.items c.args.self.now.spans.items.items c.args.self.now.log.items c.args.self.now.clock c.args.self.now.sound (c.are_settled.ensures c.if-are_settled.true), c.clear.ensures.items, c.are_settled.ensures, c.if-are_settled.true)
