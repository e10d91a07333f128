use Rattle.pmem_model.specs.Past.{history_of}
use Rattle.pmem_model.proofs.Sound.{sound-later}
use Rattle.pmem_model.proofs.histories.Histories.tick.Goals as goal

pub invariant_of-self : goal.invariant_of-self
invariant_of-self c =
    let h = c.args.self.now in
    record { sound = sound-later (history_of h.past) h.values.items h.spans.items.items h.log.items h.clock h.sound }
