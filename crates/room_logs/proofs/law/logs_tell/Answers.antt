use Rattle.room_logs.proofs.Logs.{log-tells}
use Rattle.room_logs.proofs.law.logs_tell.Goals as goal

pub returns : goal.returns
returns g c = log-tells g.D.Pmem.state c.args.room.now
