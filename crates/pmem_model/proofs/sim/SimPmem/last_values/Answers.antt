use Rattle.std.proofs.Common.{[], ◌∷◌, ◌++◌, arith, sym, ◌∙◌}
use Rattle.std.proofs.lemmas.List.FromFn.{map-range_with_len_more}
use Rattle.pmem.specs.Words.{value_of}
use Rattle.pmem_model.specs.Sim.{device_of}
use Rattle.pmem_model.proofs.sim.SimPmem.last_values.Goals as goal

pub loop-word-preserved : goal.loop-word-preserved
loop-word-preserved c =
    c.in_ok-push.ensures.items
    ∙ (λ i. c.loop-word.invariant i ++ c.last_value.ensures i ∷ [])
    ∙ sym (map-range_with_len_more (value_of (device_of c.args.self.now)) 0 c.loop-word.word c.loop-word.word (omega arith))
