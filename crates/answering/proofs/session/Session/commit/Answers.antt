use Rattle.std.proofs.Common.{ℕ}
use Rattle.std.specs.Prelude.{Option}
use Rattle.database.specs.Committing.{ReportsCommit}
use Rattle.answering.proofs.Earned.{earned-weakens}
use Rattle.answering.proofs.session.Session.commit.Goals as goal

pub returns-in-Some-take : goal.returns-in-Some-take
returns-in-Some-take g c =
    let session = c.in-Some-take.transaction.snapshot.reads.session in
    earned-weakens (ReportsCommit session) (λ (outcome : Option ℕ). (x : ℕ) × ReportsCommit x outcome) (λ outcome said. (session, said)) c.commit.result c.commit.ensures
