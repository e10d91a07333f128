use Rattle.std.proofs.Common.{sym, arith}
use Rattle.txn.proofs.Marks.{removed as unmarked}
use Rattle.txn.proofs.Entries.{put}
use Rattle.txn.proofs.transactions.Transactions.draw.Goals as goal

pub invariant_of-self : goal.invariant_of-self
invariant_of-self c = grind (arith, put c.self.inside.slab c.self.inside.places c.args.number c.in-Some.place c.draw-snapshot.new.self c.self.invariant.0 (sym c.in-Some.ensures.place), unmarked, c.self.invariant.0, c.in-Some.ensures.place, c.draw-snapshot.ensures.drawn, c.self.invariant.1, c.remove.ensures, c.self.invariant.2, c.self.invariant.3)

pub returns-clause-drawn : goal.returns-clause-drawn
returns-clause-drawn c = rw (← c.self.view_is, ← c.draw-snapshot.ensures.drawn) (put c.self.inside.slab c.self.inside.places c.args.number c.in-Some.place c.draw-snapshot.new.self c.self.invariant.0 (sym c.in-Some.ensures.place)).sets
