use Rattle.std.proofs.Common.{sym, subst}
use Rattle.pmem.specs.Words.{IsAtRest}
use Rattle.pmem.proofs.Restarted.{restarted-rests}
use Rattle.bench.proofs.engine.run_image.Goals as goal

pub run_opened-requires-clause-at_rest : goal.run_opened-requires-clause-at_rest
run_opened-requires-clause-at_rest g c κs within = subst IsAtRest (sym c.in_ok-device.ensures.device) (restarted-rests c.args.words.now)
