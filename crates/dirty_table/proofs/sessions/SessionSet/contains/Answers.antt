use Rattle.std.proofs.Common.{arith}
use Rattle.std.proofs.lemmas.Bool.Decides.{nat_tests}
use Rattle.number_set.proofs.Words.{past-bit}
use Rattle.dirty_table.proofs.sessions.SessionSet.contains.Goals as goal

pub returns-else-session-lt-LIMIT : goal.returns-else-session-lt-LIMIT
returns-else-session-lt-LIMIT c = grind (arith, nat_tests, past-bit)
