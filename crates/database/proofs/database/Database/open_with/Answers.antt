use Rattle.std.proofs.Common.{inr, [], refl, sym, subst}
use Rattle.room.proofs.Runs.{over-opened}
use Rattle.database.specs.Opening.{IsFresh}
use Rattle.database.proofs.Histories.{log-begun}
use Rattle.database.proofs.database.Database.open_with.Goals as goal

pub returns-in-Err-open-clause-images : goal.returns-in-Err-open-clause-images
returns-in-Err-open-clause-images g c history drawn next stands = inr (c.in-Err-open.ensures.images history drawn next stands)

pub new-requires-in-Ok-open : goal.new-requires-in-Ok-open
new-requires-in-Ok-open g c = record {
  opened = record {
    opened = g.D.Pmem.state c.args.device;
    taken = [];
    run = over-opened g.D.Pmem.state c.in-Ok-open.room (g.D.Pmem.state c.args.device) c.requires.at_rest c.in-Ok-open.ensures.may_open c.in-Ok-open.ensures.ok c.in-Ok-open.ensures.images;
    so = refl;
  };
  logged = λ log is. log-begun g.D.Pmem.state c.in-Ok-open.room (g.D.Pmem.state c.args.device) g.J.Origin.opened log (over-opened g.D.Pmem.state c.in-Ok-open.room (g.D.Pmem.state c.args.device) c.requires.at_rest c.in-Ok-open.ensures.may_open c.in-Ok-open.ensures.ok c.in-Ok-open.ensures.images) (c.requires.log log is);
}

pub put_in-requires : goal.put_in-requires
put_in-requires g c = record {
  opened = subst (λ r. IsFresh g.D.Pmem.state r) (sym c.new-in-Ok-open.ensures.room) (record {
    opened = g.D.Pmem.state c.args.device;
    taken = [];
    run = over-opened g.D.Pmem.state c.in-Ok-open.room (g.D.Pmem.state c.args.device) c.requires.at_rest c.in-Ok-open.ensures.may_open c.in-Ok-open.ensures.ok c.in-Ok-open.ensures.images;
    so = refl;
  });
}
