use Rattle.std.proofs.Common.{◌≡◌, map}
use Rattle.std.specs.List.{range_with_len}
use Rattle.pmem.specs.Words.{value_of}
use Rattle.pmem_model.specs.Sim.{device_of}
use Rattle.pmem_model.proofs.sim.SimPmem.last_values.Given as goal

abbrev pub invariant-loop-word : goal.invariant-loop-word
invariant-loop-word l = l.image.items ≡ map (value_of (device_of l.self)) (range_with_len 0 l.word)
