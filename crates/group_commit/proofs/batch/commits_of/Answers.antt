use Rattle.std.proofs.Common.{arith}
use Rattle.group_commit.proofs.Batches.{few-chosen}
use Rattle.group_commit.proofs.batch.commits_of.Goals as goal

pub add_commit-requires : goal.add_commit-requires
add_commit-requires c = grind (arith, few-chosen)
