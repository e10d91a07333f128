use Rattle.std.proofs.Common.{sym, arith}
use Rattle.txn.proofs.Marks.{marked}
use Rattle.txn.proofs.Entries.{put}
use Rattle.txn.proofs.transactions.Transactions.set.Goals as goal

pub invariant_of-self : goal.invariant_of-self
invariant_of-self c = grind (arith, put c.self.inside.slab c.self.inside.places c.args.number c.in-Some.place c.replace-before.new.dest c.self.invariant.0 (sym c.in-Some.ensures.place), marked, c.self.invariant.0, c.in-Some.ensures.place, c.self.invariant.1, c.mark.ensures, c.replace-before.ensures.after, c.self.invariant.2, c.self.invariant.3)

pub returns-in-Some-get_mut : goal.returns-in-Some-get_mut
returns-in-Some-get_mut c = rw (← c.self.view_is, ← c.replace-before.ensures.after) (put c.self.inside.slab c.self.inside.places c.args.number c.in-Some.place c.replace-before.new.dest c.self.invariant.0 (sym c.in-Some.ensures.place)).sets
