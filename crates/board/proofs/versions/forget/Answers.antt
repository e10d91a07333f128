use Rattle.std.proofs.Common.{arith}
use Rattle.board.proofs.Places.{forgotten_commit}
use Rattle.board.proofs.versions.forget.Goals as goal

pub loop-commit-preserved : goal.loop-commit-preserved
loop-commit-preserved c k s = grind (arith, forgotten_commit)
