use Rattle.room_logs.proofs.Logs.{log-opened, log-steps}
use Rattle.room_logs.proofs.law.rooms_keep_logs.Goals as goal

pub returns-clause-opened : goal.returns-clause-opened
returns-clause-opened g c = log-opened g.D.Pmem.state c.args.old.now

pub returns-clause-steps : goal.returns-clause-steps
returns-clause-steps g c = log-steps g.D.Pmem.state c.args.old.now c.args.new.now
