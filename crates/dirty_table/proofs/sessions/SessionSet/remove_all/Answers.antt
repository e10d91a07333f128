use Rattle.dirty_table.proofs.Sets.{without-sessions}
use Rattle.dirty_table.proofs.sessions.SessionSet.remove_all.Goals as goal

pub returns : goal.returns
returns c = λ n. without-sessions c.args.self.now.bits c.args.other.now.bits n
