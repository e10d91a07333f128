use Rattle.dirty_table.proofs.Sets.{with-session}
use Rattle.dirty_table.proofs.sessions.SessionSet.insert.Goals as goal

pub returns : goal.returns
returns c = λ n. with-session c.args.self.now.bits c.args.session n c.requires
