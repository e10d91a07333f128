use Rattle.std.proofs.Common.{◌≡◌}
use Rattle.pmem_model.specs.Sim.{device_of}
use Rattle.bench.proofs.rounds.make_round.Given as goal

abbrev pub invariant-loop-value : goal.invariant-loop-value
invariant-loop-value l = (device_of l.device).words ≡ (device_of l.initial.device).words
