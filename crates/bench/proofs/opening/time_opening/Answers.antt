use Rattle.std.proofs.Common.{sym, subst}
use Rattle.pmem.specs.Words.{IsAtRest}
use Rattle.pmem.proofs.Restarted.{restarted-rests}
use Rattle.bench.proofs.opening.time_opening.Goals as goal

pub time_open-requires-clause-at_rest : goal.time_open-requires-clause-at_rest
time_open-requires-clause-at_rest g c κs within = subst IsAtRest (sym c.in_ok-device.ensures.device) (restarted-rests c.args.words.now)
