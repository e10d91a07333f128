use Rattle.std.proofs.Common.{subst}
use Rattle.pmem.specs.Words.{IsAtRest}
use Rattle.database.proofs.kept.run_named.Goals as goal

pub run-requires-clause-at_rest : goal.run-requires-clause-at_rest
run-requires-clause-at_rest g c = subst IsAtRest c.requires.opened c.requires.at_rest
