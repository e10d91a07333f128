use Rattle.std.proofs.Common.{rules}
use Rattle.answering.proofs.Earned.{passed-on}
use Rattle.answering.proofs.session.commit.Goals as goal

pub returns : goal.returns
returns g c = search (rules, passed-on)
