use Rattle.std.proofs.Common.{◌≡◌}
use Rattle.pmem_model.specs.Sim.{device_of}
use Rattle.bench.proofs.rounds.make_rounds.Given as goal

abbrev pub invariant-loop-round : goal.invariant-loop-round
invariant-loop-round l = (device_of l.device).words ≡ (device_of l.initial.device).words
