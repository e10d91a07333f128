use Rattle.number_set.proofs.Words.{inserted}
use Rattle.number_set.proofs.bits.insert.Goals as goal

pub returns-clause-is_in : goal.returns-clause-is_in
returns-clause-is_in c = inserted c.args.words.now c.args.k c.requires
