use Rattle.std.proofs.Common.{◌∙◌, ap, sym, subst}
use Rattle.database.specs.Histories.{MadeSince}
use Rattle.database.specs.Obeys.{log_in}
use Rattle.database.proofs.Histories.{ends-as, made-since}
use Rattle.database.proofs.locked.Locked.ending.Goals as goal

pub invariant_of-result : goal.invariant_of-result
invariant_of-result g c = record {
  only = ends-as c.args.session c.args.last c.in-Some-last.at (log_in c.args.self.now.room) c.in-Some-log.log c.front.result c.requires c.in-Some-last.is (ap log_in c.in-Some.is ∙ c.in-Some-log.is) c.front.ensures;
  made = subst (MadeSince g.J.Origin.opened) (sym c.front.ensures) (made-since g.D.Pmem.state g.J.Origin.opened c.in-Some.room.room c.in-Some.room.log c.in-Some-log.log c.in-Some.room.logged c.in-Some-log.is);
}
