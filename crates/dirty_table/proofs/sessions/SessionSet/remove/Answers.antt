use Rattle.std.proofs.Common.{arith}
use Rattle.dirty_table.proofs.Sets.{without-session}
use Rattle.dirty_table.proofs.sessions.SessionSet.remove.Goals as goal

pub returns : goal.returns
returns c = λ n. without-session c.args.self.now.bits c.args.session n (omega arith) c.requires
