use Rattle.engine.proofs.Halting.{knows, some-halted}
use Rattle.engine.proofs.session.Session.hear.Goals as goal

pub invariant_of-self-clause-told_of : goal.invariant_of-self-clause-told_of
invariant_of-self-clause-told_of g c = some-halted g.J.Origin.image c.args.halt c.requires

pub returns-in-Some-clause-fault : goal.returns-in-Some-clause-fault
returns-in-Some-clause-fault g c = knows g.J.Origin.image c.args.self.now.told c.in-Some.told c.args.self.now.told_of c.in-Some.is
