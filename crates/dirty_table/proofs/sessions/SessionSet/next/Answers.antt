use Rattle.std.proofs.Common.{arith}
use Rattle.number_set.proofs.Words.{past-bit}
use Rattle.dirty_table.proofs.sessions.SessionSet.next.Goals as goal

pub returns-then-from-ge-LIMIT-clause-none : goal.returns-then-from-ge-LIMIT-clause-none
returns-then-from-ge-LIMIT-clause-none c = λ n le. past-bit c.args.self.now.bits n (omega arith) (omega (arith, le, c.if-from-ge-LIMIT.true))
