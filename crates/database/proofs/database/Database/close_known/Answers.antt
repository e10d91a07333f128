use Rattle.database.proofs.Histories.{closes-at}
use Rattle.database.proofs.database.Database.close_known.Goals as goal

pub returns-in-Ok-clause-history : goal.returns-in-Ok-clause-history
returns-in-Ok-clause-history g c =
    closes-at g.D.Pmem.state g.J.Origin.opened (g.D.Pmem.state c.in-Ok.device) c.take_out-room.result c.args.self.is_kept g.J.Origin.kept c.known_if-front.result c.take_out-room.result.logged c.known_if-front.ensures c.args.self.kept c.in-Ok.ensures.ok
