use Rattle.std.proofs.Common.{arith}
use Rattle.group_commit.proofs.Batches.{rising-plain}
use Rattle.group_commit.proofs.batch.add_commit.Goals as goal

pub new-requires-in_default : goal.new-requires-in_default
new-requires-in_default c = grind (arith, rising-plain)
