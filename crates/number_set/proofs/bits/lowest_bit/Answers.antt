use Rattle.std.proofs.Common.{arith}
use Rattle.number_set.proofs.Words.{lowest-is, lowest-none}
use Rattle.number_set.proofs.bits.lowest_bit.Goals as goal

pub returns-then-rest-eq0-clause-none : goal.returns-then-rest-eq0-clause-none
returns-then-rest-eq0-clause-none c = lowest-none c.args.word c.args.low (omega arith) c.requires c.if-rest-eq0.true

pub returns-else-rest-eq0-clause-some : goal.returns-else-rest-eq0-clause-some
returns-else-rest-eq0-clause-some c = lowest-is c.args.word c.args.low (omega arith) c.requires (omega (arith, c.if-rest-eq0.false))
