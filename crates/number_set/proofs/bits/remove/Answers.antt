use Rattle.number_set.proofs.Words.{removed}
use Rattle.number_set.proofs.bits.remove.Goals as goal

pub returns-clause-is_in : goal.returns-clause-is_in
returns-clause-is_in c = removed c.args.words.now c.args.k c.requires
