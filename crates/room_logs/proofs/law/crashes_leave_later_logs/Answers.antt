use Rattle.room_logs.proofs.Logs.{crash-later}
use Rattle.room_logs.proofs.law.crashes_leave_later_logs.Goals as goal

pub returns : goal.returns
returns g c = crash-later g.D.Pmem.state c.args.old.now c.args.new.now
