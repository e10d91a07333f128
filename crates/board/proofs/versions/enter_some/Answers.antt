use Rattle.std.proofs.Common.{◌∙◌, arith}
use Rattle.board.proofs.Puts.{unwritten_at}
use Rattle.board.proofs.Places.{unentered_commits}
use Rattle.board.proofs.versions.enter_some.Goals as goal

pub returns-in_err-enter_writes-clause-others : goal.returns-in_err-enter_writes-clause-others
returns-in_err-enter_writes-clause-others c k s none = grind (arith, unwritten_at, unentered_commits)

pub returns-clause-others : goal.returns-clause-others
returns-clause-others c k s none = c.loop-commit.invariant k s ∙ unentered_commits c.args.stamp s k _ c.args.commits.now c.loop-commit.commit-index none
