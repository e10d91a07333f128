use Rattle.room.proofs.Rooms.{sessions-show}
use Rattle.room.proofs.room.Room.tables.Goals as goal

pub tables-requires : goal.tables-requires
tables-requires g c = record { shown = sessions-show c.args.self.now.volatile (g.D.Pmem.state c.args.self.now.device) c.args.self.now.failed c.args.self.now.shown }
