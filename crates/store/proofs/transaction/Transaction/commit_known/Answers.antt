use Rattle.std.proofs.Common.{sym, subst}
use Rattle.database.proofs.Errors.{tells-refusal}
use Rattle.store.specs.Answers.{ReportsConflict}
use Rattle.store.proofs.Conflicts.{conflict-told}
use Rattle.store.proofs.Works.{stays-in}
use Rattle.store.proofs.transaction.Transaction.commit_known.Goals as goal

pub returns-in-Err-clause-err : goal.returns-in-Err-clause-err
returns-in-Err-clause-err g c =
    let session = c.args.self.snapshot.reads.session in
    record {
      of_commit = (c.in-Err.refused, c.from.ensures, c.in-Err.ensures.err);
      conflict = subst (ReportsConflict session) (sym c.from.ensures) (conflict-told session c.in-Err.refused (tells-refusal session c.in-Err.refused c.in-Err.ensures.err));
    }

pub returns-in-Ok-clause-found : goal.returns-in-Ok-clause-found
returns-in-Ok-clause-found g c = stays-in g.J.Origin.opened c.in-Ok.done.front
