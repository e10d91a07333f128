use Rattle.number_set.proofs.Words.{looks-first, looks-past}
use Rattle.number_set.proofs.bits.lowest.Goals as goal

pub loop-at-init : goal.loop-at-init
loop-at-init c = looks-first c.args.words.now c.args.from

pub returns-clause-none : goal.returns-clause-none
returns-clause-none c = looks-past c.args.words.now c.args.from c.loop-at.at c.loop-at.low c.loop-at.invariant c.loop-at-test.false
