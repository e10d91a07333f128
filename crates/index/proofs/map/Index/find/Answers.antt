use Rattle.index.specs.Entries.{entry_at}
use Rattle.index.proofs.Changes.{there-some}
use Rattle.index.proofs.map.Index.find.Goals as goal

pub returns-in-Some-clause-some : goal.returns-in-Some-clause-some
returns-in-Some-clause-some c = (c.entry_in.ensures.value, there-some c.args.self.now c.args.key (entry_at c.args.self.now c.args.key) c.in-Some.place c.in-Some.ensures.some)
