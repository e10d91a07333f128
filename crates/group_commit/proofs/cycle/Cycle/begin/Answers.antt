use Rattle.std.proofs.Common.{List, subst, sym}
use Rattle.std.specs.Prelude.{IsTrue}
use Rattle.txn.specs.declared.drawn.DrawnCommit.{DrawnCommit}
use Rattle.txn.specs.DrawnCommits.{are_numbered}
use Rattle.group_commit.proofs.cycle.Cycle.begin.Goals as goal

pub sessions_committed_by-sessions-requires : goal.sessions_committed_by-sessions-requires
sessions_committed_by-sessions-requires c = subst (λ (ds : List DrawnCommit). IsTrue (are_numbered ds)) (sym c.as_slice-commits.ensures.commits) c.as_slice-commits.ensures.numbered
